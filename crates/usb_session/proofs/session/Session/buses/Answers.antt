use Rattle.usb_session.specs.SessionFacts.{made_of}
use Rattle.usb_session_calls.proofs.Answering.{answers-same}
use Rattle.usb_session.proofs.TreeAnswers.{buses-gives, buses-refused}
use Rattle.usb_session.proofs.session.Session.buses.Goals as goal

pub returns-in-Ok : goal.returns-in-Ok
returns-in-Ok c = record {
  answered = answers-same _ _ _ c.self.view_is (rw c.deref.ensures.value at c.write_buses.ensures.text) (λ state r. buses-gives (made_of c.self.inside) state _ c.in-Ok.ensures.tried r);
}

pub returns-in-Err-Cause : goal.returns-in-Err-Cause
returns-in-Err-Cause c = record {
  answered = answers-same _ _ _ c.self.view_is (rw c.in-Err-Cause.error-is at c.write_error.ensures.text)
      (λ state r. buses-refused (made_of c.self.inside) state _ (rw c.in-Err-Cause.field-0-is at c.in-Err-Cause.ensures.tried) r);
}
