use Rattle.std.proofs.Common.{◌<◌, length, rules}
use Rattle.usb_script_words.proofs.FirstWord.{words_at_front}
use Rattle.usb_script_words.proofs.words.next_word.Goals as goal

pub returns-clause-some : goal.returns-clause-some
returns-clause-some c =
    let rest = c.skip_spaces-rest.result.now in
    let some : 0 < length rest = search rules in
    let long = c.word_len-len.ensures in
    rw (c.split_at.ensures.front, c.split_at.ensures.back)
    (words_at_front c.args.line.now rest c.word_len-len.result c.skip_spaces-rest.ensures.words some c.skip_spaces-rest.ensures.first long.within long.before long.end)
