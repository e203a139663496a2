use Rattle.std.proofs.Common.{◌≡◌, drop, ap, sym, ◌∙◌}
use Rattle.usb_session_run.specs.Memory.{SureInput}
use Rattle.usb_session_run.proofs.MemoryLemmas.{read_moves, read_ends}
use Rattle.usb_session_run.proofs.sure.SureSourceSource.read.Goals as goal

pub returns-clause-bytes : goal.returns-clause-bytes
returns-clause-bytes c =
    let bytes = c.self.inside.bytes.items in
    let front = c.copy_from_slice.new.self in
    let at = c.self.inside.at in
    let n = c.min-len.result in
    let copied = rw c.deref.ensures.value at c.copy_from_slice.ensures.after in
    let least = rw c.deref.ensures.value at c.min-len.ensures in
    let rest : c.args.self.now.rest ≡ drop at bytes = ap (λ (v : SureInput). v.rest) (sym c.self.view_is) in (
      rest ∙ read_moves bytes c.args.buf.now front at n copied least,
      λ none some. read_ends bytes c.args.buf.now front at n copied least none some,
    )
