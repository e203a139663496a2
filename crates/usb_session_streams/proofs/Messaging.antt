-- What is true of each client of messages stays true over its steps.
use Rattle.std.proofs.Common.{◌∙◌, ◌≡◌, ℕ, ◌+◌, ◌<◌, ◌≤◌, arith, List, [], length, unwrap_or, Option, None, ap, refl}
use Rattle.usb_device_endpoint.specs.EndpointState.{EndpointState}
use Rattle.usb_io.specs.Readers.{ReaderState}
use Rattle.usb_io.specs.Reads.{KeepsSettings}
use Rattle.usb_io.specs.Writers.{WriterState, KeepsWriter}
use Rattle.usb_msg.specs.Clients.{ClientState, fresh_client}
use Rattle.usb_msg.specs.declared.error.Ending.{Ending}
use Rattle.usb_msg.proofs.WholeFrames.{rounded-holds}
use Rattle.usb_session_streams.specs.ClientTickets.{IsMessaging}

pub is-fresh : (out inp : EndpointState) → out.address < 128 → 128 ≤ inp.address → 0 < out.maximum → IsMessaging (fresh_client out inp)
is-fresh out inp output input some =
    record {
      out = output;
      inp = input;
      client = record {
        room_is = refl;
        within = omega arith;
        out_n = refl;
        out_timeout = refl;
        in_n = refl;
        in_timeout = refl;
        holds = rounded-holds out.maximum 4160 some (omega arith);
        answered = omega arith;
        few = omega arith;
        nothing = λ goes. refl;
      };
    }

module _ (c : ClientState) (is : IsMessaging c) where
  -- another writer of the same endpoint, in which no bytes stand
  pub is-written : (w : WriterState) → KeepsWriter c.writer w → unwrap_or w.buffer [] ≡ [] → IsMessaging (record c { writer = w })
  is-written w settings none =
      let m = is.client in
      let size = settings.size in
      let holds = m.holds in
      let address : w.endpoint.address ≡ c.writer.endpoint.address = ap (λ (e : EndpointState). e.address) settings.endpoint in
      let output = is.out in
      record {
        out = omega (arith, address, output);
        inp = is.inp;
        client = record {
          room_is = refl;
          within = m.within;
          out_n = settings.n ∙ m.out_n;
          out_timeout = settings.timeout ∙ m.out_timeout;
          in_n = m.in_n;
          in_timeout = m.in_timeout;
          holds = omega (arith, size, holds);
          answered = m.answered;
          few = m.few;
          nothing = λ goes. none;
        };
      }

  -- one request more
  pub is-asked : c.requests < c.responses + 16 → IsMessaging (record c { requests = c.requests + 1 })
  is-asked free =
      let m = is.client in
      let answered = m.answered in
      record {
        out = is.out;
        inp = is.inp;
        client = record {
          room_is = refl;
          within = m.within;
          out_n = m.out_n;
          out_timeout = m.out_timeout;
          in_n = m.in_n;
          in_timeout = m.in_timeout;
          holds = m.holds;
          answered = omega (arith, answered);
          few = omega (arith, free);
          nothing = m.nothing;
        };
      }

  -- another reader of the same endpoint, with these bytes of a frame
  pub is-read : (r : ReaderState) (frame : List ℕ) → KeepsSettings c.reader r → r.endpoint.address ≡ c.reader.endpoint.address → length frame ≤ 4101 → IsMessaging (record c { reader = r; frame = frame })
  is-read r frame settings address within =
      let m = is.client in
      let input = is.inp in
      record {
        out = is.out;
        inp = omega (arith, address, input);
        client = record {
          room_is = refl;
          within = within;
          out_n = m.out_n;
          out_timeout = m.out_timeout;
          in_n = settings.n ∙ m.in_n;
          in_timeout = settings.timeout ∙ m.in_timeout;
          holds = m.holds;
          answered = m.answered;
          few = m.few;
          nothing = m.nothing;
        };
      }

  -- one response more
  pub is-told : c.responses < c.requests → IsMessaging (record c { responses = c.responses + 1 })
  is-told asked =
      let m = is.client in
      let few = m.few in
      record {
        out = is.out;
        inp = is.inp;
        client = record {
          room_is = refl;
          within = m.within;
          out_n = m.out_n;
          out_timeout = m.out_timeout;
          in_n = m.in_n;
          in_timeout = m.in_timeout;
          holds = m.holds;
          answered = omega (arith, asked);
          few = omega (arith, few);
          nothing = m.nothing;
        };
      }

  -- a client that went on ends, or does not
  pub is-ended : (e : Option Ending) → c.ended ≡ None → IsMessaging (record c { ended = e })
  is-ended e goes =
      let m = is.client in
      record {
        out = is.out;
        inp = is.inp;
        client = record {
          room_is = refl;
          within = m.within;
          out_n = m.out_n;
          out_timeout = m.out_timeout;
          in_n = m.in_n;
          in_timeout = m.in_timeout;
          holds = m.holds;
          answered = m.answered;
          few = m.few;
          nothing = λ on. m.nothing goes;
        };
      }
