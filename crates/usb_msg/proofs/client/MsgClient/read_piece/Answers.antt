use Rattle.std.proofs.Common.{arith, ◌≡◌, ap, sym, refl, ◌∙◌, length, take, ◌-◌, ◌++◌}
use Rattle.std.specs.Vec.{with_items}
use Rattle.std.proofs.lemmas.List.{with_items_is}
use borrow.Rule.Slice.PartMut.{post_of}
use Rattle.usb_io.specs.Readers.{ReaderState}
use Rattle.usb_io.specs.Reads.{reading}
use Rattle.usb_msg.specs.Clients.{ClientState}
use Rattle.usb_msg.proofs.PieceLemmas.{piece-came, piece-ends, room-some, whole-length}
use Rattle.usb_msg.proofs.ReadEnds.{fails-known}
use Rattle.usb_msg.proofs.KeepLemmas.{reads-piece, reads-none}
use Rattle.usb_msg.proofs.client.MsgClient.read_piece.Goals as goal

pub returns-in-Ok-clause-read : goal.returns-in-Ok-clause-read
returns-in-Ok-clause-read g c =
    let room = c.deref_mut.result.now in
    let whole : length room ≡ 4101 = ap length c.deref_mut.ensures.value ∙ c.self.invariant.room_is in
    let most = c.self.invariant.within in
    let size = c.read.auto.dest in
    let kept = with_items_is c.self.inside.frame (take c.self.inside.filled room ++ (c.read.new.dest ++ post_of c.self.inside.filled (length room - c.self.inside.filled) room)) (whole-length room c.read.new.dest c.self.inside.filled (omega (arith, whole, most)) c.read.auto.dest ∙ c.deref_mut.ensures.len) in
    let inside : ClientState = record {
      writer = c.self.inside.writer;
      reader = c.self.inside.reader;
      requests = c.self.inside.requests;
      responses = c.self.inside.responses;
      frame = take c.self.inside.filled c.self.inside.frame.items;
      ended = c.self.inside.ended;
    } in
    piece-came g.B.Bus.calls c.args.bus.now c.read.new.bus c.args.self.now inside c.until_short_packet-reader.result.reader.now c.read.new.self.reader.now room ((with_items c.self.inside.frame (take c.self.inside.filled room ++ (c.read.new.dest ++ post_of c.self.inside.filled (length room - c.self.inside.filled) room))).items) c.read.new.dest (post_of c.self.inside.filled (length room - c.self.inside.filled) room) c.self.inside.filled c.in-Ok.n _ c.self.view_is kept (ap (take c.self.inside.filled) (sym c.deref_mut.ensures.value)) c.until_short_packet-reader.ensures.value (omega (arith, whole, most)) whole refl c.in-Ok.ensures.read c.in-Ok.ensures.few c.read.auto.dest

pub returns-in-Ok-clause-end : goal.returns-in-Ok-clause-end
returns-in-Ok-clause-end g c =
    let room = c.deref_mut.result.now in
    let whole : length room ≡ 4101 = ap length c.deref_mut.ensures.value ∙ c.self.invariant.room_is in
    let most = c.self.invariant.within in
    λ none. piece-ends g.B.Bus.calls c.until_short_packet-reader.result.reader.now.timeout _ c.in-Ok.n c.read.new.dest (reading c.args.bus.now c.until_short_packet-reader.result.reader.now) (reading c.read.new.bus c.read.new.self.reader.now) c.in-Ok.ensures.read
    (room-some room c.args.self.now.frame c.self.inside.filled (omega (arith, whole, most)) whole (sym (ap (λ (x : ClientState). x.frame) c.self.view_is) ∙ ap (take c.self.inside.filled) (sym c.deref_mut.ensures.value)) c.requires.few) none

pub returns-in-Ok-clause-keeps : goal.returns-in-Ok-clause-keeps
returns-in-Ok-clause-keeps g c =
    let room = c.deref_mut.result.now in
    let whole : length room ≡ 4101 = ap length c.deref_mut.ensures.value ∙ c.self.invariant.room_is in
    let most = c.self.invariant.within in
    let few = c.in-Ok.ensures.few in
    let size = c.read.auto.dest in
    let kept = with_items_is c.self.inside.frame (take c.self.inside.filled room ++ (c.read.new.dest ++ post_of c.self.inside.filled (length room - c.self.inside.filled) room)) (whole-length room c.read.new.dest c.self.inside.filled (omega (arith, whole, most)) c.read.auto.dest ∙ c.deref_mut.ensures.len) in
    let inside : ClientState = record {
      writer = c.self.inside.writer;
      reader = c.self.inside.reader;
      requests = c.self.inside.requests;
      responses = c.self.inside.responses;
      frame = take c.self.inside.filled c.self.inside.frame.items;
      ended = c.self.inside.ended;
    } in
    reads-piece (g.B.Bus.calls.state c.args.bus.now) (g.B.Bus.calls.state c.read.new.bus) c.args.self.now inside c.self.view_is c.in-Ok.ensures.goes.goes_on.past c.until_short_packet-reader.result.reader.now c.read.new.self.reader.now room ((with_items c.self.inside.frame (take c.self.inside.filled room ++ (c.read.new.dest ++ post_of c.self.inside.filled (length room - c.self.inside.filled) room))).items) c.read.new.dest (post_of c.self.inside.filled (length room - c.self.inside.filled) room) c.self.inside.filled c.in-Ok.n kept c.requires.goes (ap (take c.self.inside.filled) (sym c.deref_mut.ensures.value)) c.until_short_packet-reader.ensures.value (omega (arith, whole, most)) (omega (arith, few, size)) c.in-Ok.ensures.follows

pub returns-in-Err-clause-known : goal.returns-in-Err-clause-known
returns-in-Err-clause-known g c =
    let one = ap (λ (r : ReaderState). r.n) c.until_short_packet-reader.ensures.value ∙ c.self.invariant.in_n in
    fails-known g.B.Bus.calls c.until_short_packet-reader.result.reader.now.timeout _ (reading c.args.bus.now c.until_short_packet-reader.result.reader.now) (reading c.read.new.bus c.read.new.self.reader.now) c.in-Err.fail (omega (arith, one)) c.in-Err.ensures.failed

pub returns-in-Err-clause-keeps : goal.returns-in-Err-clause-keeps
returns-in-Err-clause-keeps g c =
    let room = c.deref_mut.result.now in
    let whole : length room ≡ 4101 = ap length c.deref_mut.ensures.value ∙ c.self.invariant.room_is in
    let most = c.self.invariant.within in
    let size = c.read.auto.dest in
    let kept = with_items_is c.self.inside.frame (take c.self.inside.filled room ++ (c.read.new.dest ++ post_of c.self.inside.filled (length room - c.self.inside.filled) room)) (whole-length room c.read.new.dest c.self.inside.filled (omega (arith, whole, most)) c.read.auto.dest ∙ c.deref_mut.ensures.len) in
    let inside : ClientState = record {
      writer = c.self.inside.writer;
      reader = c.self.inside.reader;
      requests = c.self.inside.requests;
      responses = c.self.inside.responses;
      frame = take c.self.inside.filled c.self.inside.frame.items;
      ended = c.self.inside.ended;
    } in
    reads-none (g.B.Bus.calls.state c.args.bus.now) (g.B.Bus.calls.state c.read.new.bus) c.args.self.now inside c.self.view_is c.in-Err.ensures.goes.goes_on.past c.until_short_packet-reader.result.reader.now c.read.new.self.reader.now room ((with_items c.self.inside.frame (take c.self.inside.filled room ++ (c.read.new.dest ++ post_of c.self.inside.filled (length room - c.self.inside.filled) room))).items) (c.read.new.dest ++ post_of c.self.inside.filled (length room - c.self.inside.filled) room) c.self.inside.filled kept (ap (take c.self.inside.filled) (sym c.deref_mut.ensures.value)) c.until_short_packet-reader.ensures.value (omega (arith, whole, most)) c.in-Err.ensures.fails
