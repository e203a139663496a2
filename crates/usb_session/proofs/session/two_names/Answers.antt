use Rattle.std.proofs.Common.{◌∙◌, ap}
use Rattle.usb_session_calls.specs.Names.{named}
use Rattle.usb_session_calls.proofs.NameLemmas.{named-replicate}
use Rattle.usb_session.proofs.session.two_names.Goals as goal

pub drop_names-requires : goal.drop_names-requires
drop_names-requires c = λ e. record { none = λ n. ap (λ l. named l n) e.in_ok-first.ensures.empty ∙ named-replicate 64 n }
