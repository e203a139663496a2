use Rattle.std.proofs.Common.{◌∙◌, ap}
use Rattle.usb_session_calls.specs.Names.{named}
use Rattle.usb_session_calls.proofs.NameLemmas.{named-replicate}
use Rattle.usb_session.proofs.session.stream_names.Goals as goal

pub drop_names-requires : goal.drop_names-requires
drop_names-requires c = record { none = λ n. ap (λ l. named l n) c.in_ok-readers.ensures.first ∙ named-replicate 64 n }

pub drop_names-requires-in-Err : goal.drop_names-requires-in-Err
drop_names-requires-in-Err c = record { none = λ n. ap (λ l. named l n) c.in_ok-readers.ensures.second ∙ named-replicate 64 n }
