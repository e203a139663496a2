-- A stage at one endpoint of a client leaves both standing, and all further ones.
use Rattle.std.proofs.Common.{◌≡◌, ◌∙◌, ap, sym}
use Rattle.usb_device_endpoint.specs.BusState.{BusState}
use Rattle.usb_device_endpoint.specs.EndpointState.{EndpointState}
use Rattle.usb_device_endpoint.specs.Handles.{Stands, KeepsOthers}
use Rattle.usb_bot.specs.Clients.{ClientState, StandBoth, KeepsFurther}

pub out-stand : (old new : BusState) (c : ClientState) (e : EndpointState) → StandBoth old c → e ≡ c.out → Stands new e → KeepsOthers old new c.out.key → StandBoth new (record c { out = e })
out-stand old new c e both same stands others = record {
  out = stands;
  inp = others.stand c.inp (λ is. both.apart (sym is)) both.inp;
  apart = λ is. both.apart (sym (ap (λ (x : EndpointState). x.key) same) ∙ is);
}

pub in-stand : (old new : BusState) (c : ClientState) (e : EndpointState) → StandBoth old c → e ≡ c.inp → Stands new e → KeepsOthers old new c.inp.key → StandBoth new (record c { inp = e })
in-stand old new c e both same stands others = record {
  out = others.stand c.out both.apart both.out;
  inp = stands;
  apart = λ is. both.apart (is ∙ ap (λ (x : EndpointState). x.key) same);
}

pub out-further : (old new : BusState) (c : ClientState) → KeepsOthers old new c.out.key → KeepsFurther old new c
out-further old new c others = record {
  tickets = λ t k out inp held. others.tickets t k out held;
  keys = λ k out inp is. others.keys k out is;
  stand = λ e out inp stands. others.stand e out stands;
}

pub in-further : (old new : BusState) (c : ClientState) → KeepsOthers old new c.inp.key → KeepsFurther old new c
in-further old new c others = record {
  tickets = λ t k out inp held. others.tickets t k inp held;
  keys = λ k out inp is. others.keys k inp is;
  stand = λ e out inp stands. others.stand e inp stands;
}

pub further-trans : (old mid new : BusState) (c : ClientState) → KeepsFurther old mid c → KeepsFurther mid new c → KeepsFurther old new c
further-trans old mid new c first second = record {
  tickets = λ t k out inp held. second.tickets t k out inp (first.tickets t k out inp held);
  keys = λ k out inp is. second.keys k out inp (first.keys k out inp is);
  stand = λ e out inp stands. second.stand e out inp (first.stand e out inp stands);
}
