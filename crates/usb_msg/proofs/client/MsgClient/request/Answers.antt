use Rattle.std.proofs.Common.{ℕ, ◌≡◌, ◌∙◌, ◌+◌, [], ◌∷◌, List, None, Some, take, subst}
use Rattle.usb_io.specs.Carried.{TellsOn}
use Rattle.usb_io.specs.Writes.{Accept, Finish}
use Rattle.usb_msg.specs.Clients.{ClientState}
use Rattle.usb_msg.specs.declared.error.Ending.TheVariants as ending
use Rattle.usb_msg.proofs.KeepLemmas.{keeps-from, keeps-ends, keeps-request, keeps-unsent, keeps-unended}
use Rattle.usb_msg.proofs.RequestLemmas.{request-short, request-unended}
use Rattle.usb_msg.proofs.client.MsgClient.request.Goals as goal

pub returns-in-Ok-send-clause-accepted : goal.returns-in-Ok-send-clause-accepted
returns-in-Ok-send-clause-accepted g c =
    let inside : ClientState = record {
      writer = c.self.inside.writer;
      reader = c.self.inside.reader;
      requests = c.self.inside.requests;
      responses = c.self.inside.responses;
      frame = take c.self.inside.filled c.self.inside.frame.items;
      ended = c.self.inside.ended;
    } in
    let goes : inside.ended ≡ None = c.in_default.is in
    let old = g.B.Bus.calls.state c.args.bus.now in
    let new = g.B.Bus.calls.state c.send.new.bus in
    let same = c.as_slice.ensures.value ∙ c.in-Ok-frame_of.ensures.frame in
    keeps-from old.past new.past c.args.self.now inside (record inside { writer = c.send.new.writer; requests = c.self.inside.requests + 1 }) (c.args.body.now ∷ []) [] c.self.view_is
    (keeps-request old new inside c.send.ensures.goes.goes_on.past c.send.new.writer c.args.body.now goes c.send.ensures.settings
    (subst (λ (frame : List ℕ). TellsOn old new c.self.inside.writer c.send.new.writer (Finish ∷ Accept frame ∷ [])) same c.in-Ok-send.ensures.tells))

pub returns-in-Err-NotWritten-clause-none : goal.returns-in-Err-NotWritten-clause-none
returns-in-Err-NotWritten-clause-none g c =
    let inside : ClientState = record {
      writer = c.self.inside.writer;
      reader = c.self.inside.reader;
      requests = c.self.inside.requests;
      responses = c.self.inside.responses;
      frame = take c.self.inside.filled c.self.inside.frame.items;
      ended = c.self.inside.ended;
    } in
    let goes : inside.ended ≡ None = c.in_default.is in
    let old = g.B.Bus.calls.state c.args.bus.now in
    let new = g.B.Bus.calls.state c.send.new.bus in
    let same = c.as_slice.ensures.value ∙ c.in-Ok-frame_of.ensures.frame in
    keeps-from old.past new.past c.args.self.now inside (record inside { writer = c.send.new.writer; ended = c.of_write-self-inside.result }) [] [] c.self.view_is
    (keeps-ends old.past new.past inside (record inside { writer = c.send.new.writer }) c.of_write-self-inside.result goes
    (keeps-unsent old new inside c.send.ensures.goes.goes_on.past c.send.new.writer c.send.ensures.settings
    (rw c.in-Err-NotWritten.field-0-is at c.in-Err-NotWritten.ensures.tells)))

pub returns-in-Err-NoWrite-clause-failed : goal.returns-in-Err-NoWrite-clause-failed
returns-in-Err-NoWrite-clause-failed g c =
    let inside : ClientState = record {
      writer = c.self.inside.writer;
      reader = c.self.inside.reader;
      requests = c.self.inside.requests;
      responses = c.self.inside.responses;
      frame = take c.self.inside.filled c.self.inside.frame.items;
      ended = c.self.inside.ended;
    } in
    let goes : inside.ended ≡ None = c.in_default.is in
    let old = g.B.Bus.calls.state c.args.bus.now in
    let new = g.B.Bus.calls.state c.send.new.bus in
    let same = c.as_slice.ensures.value ∙ c.in-Ok-frame_of.ensures.frame in
    request-short g.B.Bus.calls c.args.body.now c.as_slice.result.now c.args.bus.now c.send.new.bus c.args.self.now inside c.send.new.writer c.self.view_is goes same (rw c.in-Err-NoWrite.field-0-is at c.in-Err-NoWrite.ensures.failed)

pub returns-in-Err-NoWrite-clause-none : goal.returns-in-Err-NoWrite-clause-none
returns-in-Err-NoWrite-clause-none g c =
    let inside : ClientState = record {
      writer = c.self.inside.writer;
      reader = c.self.inside.reader;
      requests = c.self.inside.requests;
      responses = c.self.inside.responses;
      frame = take c.self.inside.filled c.self.inside.frame.items;
      ended = c.self.inside.ended;
    } in
    let goes : inside.ended ≡ None = c.in_default.is in
    let old = g.B.Bus.calls.state c.args.bus.now in
    let new = g.B.Bus.calls.state c.send.new.bus in
    let same = c.as_slice.ensures.value ∙ c.in-Ok-frame_of.ensures.frame in
    keeps-from old.past new.past c.args.self.now inside (record inside { writer = c.send.new.writer }) [] [] c.self.view_is
    (keeps-unsent old new inside c.send.ensures.goes.goes_on.past c.send.new.writer c.send.ensures.settings
    (rw c.in-Err-NoWrite.field-0-is at c.in-Err-NoWrite.ensures.tells))

pub returns-in-Err-NoEnd-clause-failed : goal.returns-in-Err-NoEnd-clause-failed
returns-in-Err-NoEnd-clause-failed g c =
    let inside : ClientState = record {
      writer = c.self.inside.writer;
      reader = c.self.inside.reader;
      requests = c.self.inside.requests;
      responses = c.self.inside.responses;
      frame = take c.self.inside.filled c.self.inside.frame.items;
      ended = c.self.inside.ended;
    } in
    let goes : inside.ended ≡ None = c.in_default.is in
    let old = g.B.Bus.calls.state c.args.bus.now in
    let new = g.B.Bus.calls.state c.send.new.bus in
    let same = c.as_slice.ensures.value ∙ c.in-Ok-frame_of.ensures.frame in
    request-unended g.B.Bus.calls c.args.body.now c.as_slice.result.now c.args.bus.now c.send.new.bus c.args.self.now inside c.send.new.writer c.self.view_is goes same (rw c.in-Err-NoEnd.field-0-is at c.in-Err-NoEnd.ensures.failed)

pub returns-in-Err-NoEnd-clause-none : goal.returns-in-Err-NoEnd-clause-none
returns-in-Err-NoEnd-clause-none g c =
    let inside : ClientState = record {
      writer = c.self.inside.writer;
      reader = c.self.inside.reader;
      requests = c.self.inside.requests;
      responses = c.self.inside.responses;
      frame = take c.self.inside.filled c.self.inside.frame.items;
      ended = c.self.inside.ended;
    } in
    let goes : inside.ended ≡ None = c.in_default.is in
    let old = g.B.Bus.calls.state c.args.bus.now in
    let new = g.B.Bus.calls.state c.send.new.bus in
    let same = c.as_slice.ensures.value ∙ c.in-Ok-frame_of.ensures.frame in
    keeps-from old.past new.past c.args.self.now inside (record inside { writer = c.send.new.writer; ended = Some ending.Memory }) [] [] c.self.view_is
    (keeps-unended old new inside c.send.ensures.goes.goes_on.past c.send.new.writer c.as_slice.result.now ending.Memory goes (rw c.in-Err-NoEnd.field-0-is at c.in-Err-NoEnd.ensures.tells))
