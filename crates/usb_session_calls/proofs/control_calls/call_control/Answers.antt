use Rattle.usb_session_calls.proofs.control_calls.call_control.Goals as goal

pub returns-in-In-clause-answered : goal.returns-in-In-clause-answered
returns-in-In-clause-answered c = rw c.in-In.is c.control_in_open.ensures.answered

pub returns-in-Out-clause-answered : goal.returns-in-Out-clause-answered
returns-in-Out-clause-answered c = rw c.in-Out.is (rw c.as_slice.ensures.value at c.control_out_open.ensures.answered)

pub returns-in-Descriptor-clause-answered : goal.returns-in-Descriptor-clause-answered
returns-in-Descriptor-clause-answered c = rw c.in-Descriptor.is c.get_descriptor_open.ensures.answered

pub returns-in-Languages-clause-answered : goal.returns-in-Languages-clause-answered
returns-in-Languages-clause-answered c = rw c.in-Languages.is c.languages_open.ensures.answered

pub returns-in-Text-clause-answered : goal.returns-in-Text-clause-answered
returns-in-Text-clause-answered c = rw c.in-Text.is c.string_open.ensures.answered
