use Rattle.std.proofs.Common.{◌∙◌, ap}
use Rattle.usb_session_calls.specs.Names.{named}
use Rattle.usb_session_calls.proofs.NameLemmas.{named-replicate}
use Rattle.usb_session.proofs.session.drop_all.Goals as goal

pub drop_names-requires : goal.drop_names-requires
drop_names-requires c = record { none = λ n. ap (λ l. named l n) c.requires.devices ∙ named-replicate 64 n }

pub drop_names-requires-2 : goal.drop_names-requires-2
drop_names-requires-2 c = record { none = λ n. ap (λ l. named l n) c.requires.interfaces ∙ named-replicate 64 n }

pub drop_names-requires-3 : goal.drop_names-requires-3
drop_names-requires-3 c = record { none = λ n. ap (λ l. named l n) c.requires.endpoints ∙ named-replicate 64 n }

pub drop_names-requires-4 : goal.drop_names-requires-4
drop_names-requires-4 c = record { none = λ n. ap (λ l. named l n) c.requires.readers ∙ named-replicate 64 n }

pub drop_names-requires-5 : goal.drop_names-requires-5
drop_names-requires-5 c = record { none = λ n. ap (λ l. named l n) c.requires.writers ∙ named-replicate 64 n }

pub drop_names-requires-6 : goal.drop_names-requires-6
drop_names-requires-6 c = record { none = λ n. ap (λ l. named l n) c.requires.clients ∙ named-replicate 64 n }

pub drop_names-requires-7 : goal.drop_names-requires-7
drop_names-requires-7 c = record { none = λ n. ap (λ l. named l n) c.requires.futures ∙ named-replicate 64 n }
