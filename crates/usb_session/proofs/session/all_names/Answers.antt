use Rattle.std.proofs.Common.{◌∙◌, ap}
use Rattle.usb_session_calls.specs.Names.{named}
use Rattle.usb_session_calls.proofs.NameLemmas.{named-replicate}
use Rattle.usb_session.proofs.session.all_names.Goals as goal

pub drop_names-requires : goal.drop_names-requires
drop_names-requires c = record { none = λ n. ap (λ l. named l n) c.in_ok-devices.ensures.first ∙ named-replicate 64 n }

pub drop_names-requires-in-Err : goal.drop_names-requires-in-Err
drop_names-requires-in-Err c = record { none = λ n. ap (λ l. named l n) c.in_ok-devices.ensures.second ∙ named-replicate 64 n }

pub drop_names-requires-in-Err-stream_names : goal.drop_names-requires-in-Err-stream_names
drop_names-requires-in-Err-stream_names c = record { none = λ n. ap (λ l. named l n) c.in_ok-devices.ensures.first ∙ named-replicate 64 n }

pub drop_names-requires-in-Err-stream_names-2 : goal.drop_names-requires-in-Err-stream_names-2
drop_names-requires-in-Err-stream_names-2 c = record { none = λ n. ap (λ l. named l n) c.in_ok-devices.ensures.second ∙ named-replicate 64 n }

pub drop_names-requires-in-Err-stream_names-3 : goal.drop_names-requires-in-Err-stream_names-3
drop_names-requires-in-Err-stream_names-3 c = record { none = λ n. ap (λ l. named l n) c.in-Ok.ensures.first ∙ named-replicate 64 n }

pub drop_names-requires-in-Err-stream_names-4 : goal.drop_names-requires-in-Err-stream_names-4
drop_names-requires-in-Err-stream_names-4 c = record { none = λ n. ap (λ l. named l n) c.in-Ok.ensures.second ∙ named-replicate 64 n }
