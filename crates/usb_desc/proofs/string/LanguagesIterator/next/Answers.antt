use Rattle.std.proofs.Common.{◌≡◌, ◌<◌, ◌∙◌, sym, [], length, drop, arith, length-drop}
use Rattle.usb_desc.proofs.StringLemmas.{words_few, words_at, two_left, place_fits}
use Rattle.usb_desc.proofs.string.LanguagesIterator.next.Goals as goal

pub returns-then-saturating_sub-lt2-clause-steps : goal.returns-then-saturating_sub-lt2-clause-steps
returns-then-saturating_sub-lt2-clause-steps c =
    let left = drop c.self.inside.at c.self.inside.bytes.items in
    let few : length left < 2 = omega (arith, length-drop c.self.inside.at c.self.inside.bytes.items, c.self.inside.bytes.ok.0) in
    let none : c.args.self.now ≡ [] = sym c.self.view_is ∙ words_few left few in
    (none, none)

pub read_word-word-requires : goal.read_word-word-requires
read_word-word-requires c = record { inside = rw c.deref.ensures.value (two_left c.self.inside.bytes c.self.inside.at c.len.result c.saturating_sub.result c.len.ensures c.saturating_sub.ensures c.if-saturating_sub-lt2.false) }

pub overflow_add-self : goal.overflow_add-self
overflow_add-self c = place_fits c.self.inside.bytes c.self.inside.at (two_left c.self.inside.bytes c.self.inside.at c.len.result c.saturating_sub.result c.len.ensures c.saturating_sub.ensures c.if-saturating_sub-lt2.false)

pub returns-clause-steps : goal.returns-clause-steps
returns-clause-steps c =
    let inside = two_left c.self.inside.bytes c.self.inside.at c.len.result c.saturating_sub.result c.len.ensures c.saturating_sub.ensures c.if-saturating_sub-lt2.false in
    sym c.self.view_is ∙ words_at c.self.inside.bytes.items c.self.inside.at c.read_word-word.result inside (rw c.deref.ensures.value at c.read_word-word.ensures.value)
