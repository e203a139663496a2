use Rattle.std.proofs.Common.{◌∙◌, ap}
use Rattle.usb_session_calls.specs.Names.{named}
use Rattle.usb_session.specs.Ends.{clients_closed, readers_closed, writers_closed}
use Rattle.usb_session.proofs.session.Session.close_streams.Goals as goal

pub returns : goal.returns
returns c = record {
  stands =
      λ state r.
      let behind_clients = c.close_clients.ensures.stands state r in
      let behind_readers = c.close_readers.ensures.stands (clients_closed state 64) behind_clients in
      let behind_writers = c.close_writers.ensures.stands (readers_closed (clients_closed state 64) 64) behind_readers in
      c.close_endpoints.ensures.stands (writers_closed (readers_closed (clients_closed state 64) 64) 64) behind_writers;
  clients = λ m below. ap (λ l. named l m) (c.close_endpoints.ensures.clients ∙ c.close_writers.ensures.clients ∙ c.close_readers.ensures.clients) ∙ c.close_clients.ensures.none m below;
  readers = λ r below. ap (λ l. named l r) (c.close_endpoints.ensures.readers ∙ c.close_writers.ensures.readers) ∙ c.close_readers.ensures.none r below;
  writers = λ w below. ap (λ l. named l w) c.close_endpoints.ensures.writers ∙ c.close_writers.ensures.none w below;
  endpoints = c.close_endpoints.ensures.none;
}
