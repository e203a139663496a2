use Rattle.std.proofs.Common.{◌≡◌, ◌<◌, ◌∙◌, sym, [], length}
use Rattle.usb_desc.proofs.StringLemmas.{words_few, words_two}
use Rattle.usb_desc.proofs.string.WordsIterator.next.Goals as goal

pub returns-in_default-clause-steps : goal.returns-in_default-clause-steps
returns-in_default-clause-steps c =
    let few : length c.self.inside.rest.now < 2 = c.in_default.len_below in
    let none : c.args.self.now ≡ [] = sym c.self.view_is ∙ words_few c.self.inside.rest.now few in
    (none, none)

pub returns-clause-steps : goal.returns-clause-steps
returns-clause-steps c = sym c.self.view_is ∙ words_two c.self.inside.rest.now c.from_le_bytes.result c.in-len2-up.len_at_least c.from_le_bytes.ensures
