use Rattle.usb_session_run.proofs.run.run_script.Goals as goal

pub returns-clause-handed : goal.returns-clause-handed
returns-clause-handed g c = rw c.into_items.ensures.value at c.answer_items.ensures.handed

pub returns-clause-told : goal.returns-clause-told
returns-clause-told g c = rw c.into_items.ensures.value at c.answer_items.ensures.told

pub returns-clause-exchanged : goal.returns-clause-exchanged
returns-clause-exchanged g c = rw c.into_items.ensures.value at c.answer_items.ensures.exchanged

pub returns-clause-keeps_arriving : goal.returns-clause-keeps_arriving
returns-clause-keeps_arriving g c = rw c.into_items.ensures.value at c.answer_items.ensures.keeps_arriving

pub returns-clause-clients : goal.returns-clause-clients
returns-clause-clients g c = rw c.into_items.ensures.value at c.answer_items.ensures.clients
