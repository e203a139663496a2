-- A call on one endpoint of a client leaves both standing.
use Rattle.std.proofs.Common.{◌≡◌, ◌∙◌, ap, sym, subst}
use Rattle.usb_device_endpoint.specs.BusState.{BusState}
use Rattle.usb_device_endpoint.specs.EndpointState.{EndpointState}
use Rattle.usb_device_endpoint.specs.Handles.{Stands}
use Rattle.usb_io.specs.Along.{ReadsAlong, WritesAlong}
use Rattle.usb_io.specs.Readers.{ReaderState}
use Rattle.usb_io.specs.Writers.{WriterState}
use Rattle.usb_msg.specs.Clients.{ClientState, StandBoth}

pub both-written : (old new : BusState) (c c' : ClientState) → WritesAlong old new c.writer.endpoint c'.writer.endpoint → c'.reader ≡ c.reader → StandBoth old c → StandBoth new c'
both-written old new c c' along same both =
    let key = ap (λ (e : EndpointState). e.key) along.endpoint in
    let inp = along.others.stand c.reader.endpoint (λ is. both.apart (sym is)) both.inp in
    record {
      out = along.stands;
      inp = subst (λ (r : ReaderState). Stands new r.endpoint) (sym same) inp;
      apart = λ is. both.apart (sym key ∙ is ∙ ap (λ (r : ReaderState). r.endpoint.key) same);
    }

pub both-read : (old new : BusState) (c c' : ClientState) → ReadsAlong old new c.reader.endpoint c'.reader.endpoint → c'.writer ≡ c.writer → StandBoth old c → StandBoth new c'
both-read old new c c' along same both =
    let key = ap (λ (e : EndpointState). e.key) along.endpoint in
    let out = along.others.stand c.writer.endpoint both.apart both.out in
    record {
      out = subst (λ (w : WriterState). Stands new w.endpoint) (sym same) out;
      inp = along.stands;
      apart = λ is. both.apart (sym (ap (λ (w : WriterState). w.endpoint.key) same) ∙ is ∙ key);
    }
