-- Each item of a parsed script is sized.
use Rattle.std.proofs.Common.{ℕ, ◌≤◌, ◌≡◌, ◌+◌, List, [], ◌∷◌, ◌++◌, length, Option, Some, None, Result, Ok, Err, subst}
use Rattle.std.specs.Prelude.{nat_lt, option_and_then}
use Rattle.std.specs.List.{list_all}
use Rattle.std.proofs.lemmas.Bool.{cond_both}
use Rattle.usb_script_words.specs.Controls.{control_bytes_of, string_index_of}
use Rattle.usb_script_words.specs.FieldForms.{k, d, i, e, r, w, m, f, N, B, R, T, HH, HHHH, TIME, ERRNO, BYTES, PATH, NAME, TEXT, VALUE, KIND, SEL}
use Rattle.usb_script_words.specs.Fields.{Word, one, two}
use Rattle.usb_script_words.specs.KernelSteps.{steps_of}
use Rattle.usb_script_words.specs.Lines.{words_of, is_printable, without_cr, is_skipped, lines_of}
use Rattle.usb_script_words.specs.Tables.{◌or◌}
use Rattle.usb_script_words.specs.Words.{number_of}
use Rattle.usb_script_words.specs.declared.framing.Framing.TheVariants.{Plain, UntilShort}
use Rattle.usb_script_lines.specs.Forms.{steps_line, forms, named_of}
use Rattle.usb_script_lines.specs.LineForms.{form_of, item_of, item_reading_of, own_reading_of, reading_of}
use Rattle.usb_script_lines.specs.declared.item.Item.{Item}
use Rattle.usb_script_lines.specs.declared.item.Item.TheVariants as item
use Rattle.usb_script_lines.specs.declared.reading.Reading.{Reading}
use Rattle.usb_script_lines.specs.declared.reading.Reading.TheVariants.{Skipped, Read}
use Rattle.usb_script.specs.Order.{may_follow, with_reading}
use Rattle.usb_script.specs.Parse.{with_line, or_line, parse_from, parse, or_malformed, script_of}
use Rattle.usb_script.specs.declared.error.SessionError.TheVariants as errors
use Rattle.usb_session_calls.specs.Calls.{call_of}
use Rattle.usb_session_sizes.proofs.CallSizes.{IsItemSized, AreItemsSized}
use Rattle.usb_session_sizes.proofs.Fits.{Fits}
use Rattle.usb_session_sizes.proofs.Hosts.{AreStepsSized}
use Rattle.usb_session_sizes.proofs.Shapes.{◌also◌, Any, Gives, Rows, any, then-fits, none-gives, one-gives, two-gives, three-gives, four-gives, six-gives, or-gives, number-reads, bytes-reads, control_bytes-reads, table-gives}
use Rattle.usb_session_sizes.proofs.StepWords.{steps-fit, one_steps-gives, two_steps-gives, three_steps-gives, four_steps-gives, five_steps-gives, control-gives, started-gives, rest-gives}

steps_line-gives : Gives IsItemSized steps_line
unfolding call_of
steps_line-gives words = then-fits AreStepsSized IsItemSized (steps_of words) (λ ss. Some (item.Steps ss)) (steps-fit words) (λ ss are. (are, are))

-- each first word, in the order of the table
rows : Rows IsItemSized forms
unfolding forms call_of
rows =
    steps_line-gives
    also six-gives IsItemSized item.Device k B B B B BYTES (λ a b c d e z. (tt, tt))
    also two-gives Any Any IsItemSized item.Driver k B (any k) (any B) (λ a b i j. (tt, tt))
    also three-gives Any Any Any IsItemSized item.Attribute PATH NAME VALUE (any PATH) (any NAME) (any VALUE) (λ a b c i j l. (tt, tt))
    also three-gives Any Any Any IsItemSized item.Denied PATH NAME ERRNO (any PATH) (any NAME) (any ERRNO) (λ a b c i j l. (tt, tt))
    also two-gives Any Any IsItemSized item.Child PATH NAME (any PATH) (any NAME) (λ a b i j. (tt, tt))
    also three-gives Any Any Any IsItemSized item.Link PATH NAME TEXT (any PATH) (any NAME) (any TEXT) (λ a b c i j l. (tt, tt))
    also two-gives Any Any IsItemSized item.Entry NAME PATH (any NAME) (any PATH) (λ a b i j. (tt, tt))
    also one-gives Any IsItemSized item.Root ERRNO (any ERRNO) (λ a i. (tt, tt))
    also two-gives Any Any IsItemSized item.Uevent T VALUE (any T) (any VALUE) (λ a b i j. (tt, tt))
    also three-gives Any Any Any IsItemSized item.Open d B B (any d) (any B) (any B) (λ a b c i j l. (tt, tt))
    also one-gives Any IsItemSized item.DeviceDescriptor d (any d) (λ a i. (tt, tt))
    also one-gives Any IsItemSized item.Descriptors d (any d) (λ a i. (tt, tt))
    also one-gives Any IsItemSized item.ActiveConfiguration d (any d) (λ a i. (tt, tt))
    also one-gives Any IsItemSized item.Speed d (any d) (λ a i. (tt, tt))
    also two-gives Any Any IsItemSized item.SetConfiguration d B (any d) (any B) (λ a b i j. (tt, tt))
    also one-gives Any IsItemSized item.Reset d (any d) (λ a i. (tt, tt))
    also three-gives Any Any Any IsItemSized item.Claim d B i (any d) (any B) (any i) (λ a b c i j l. (tt, tt))
    also three-gives Any Any Any IsItemSized item.DetachAndClaim d B i (any d) (any B) (any i) (λ a b c i j l. (tt, tt))
    also two-gives Any Any IsItemSized item.DetachDriver d B (any d) (any B) (λ a b i j. (tt, tt))
    also two-gives Any Any IsItemSized item.AttachDriver d B (any d) (any B) (λ a b i j. (tt, tt))
    also two-gives Any Any IsItemSized item.SetAltSetting i B (any i) (any B) (λ a b i j. (tt, tt))
    also one-gives Any IsItemSized item.GetAltSetting i (any i) (λ a i. (tt, tt))
    also one-gives Any IsItemSized item.InterfaceDescriptor i (any i) (λ a i. (tt, tt))
    also one-gives Any IsItemSized item.Release i (any i) (λ a i. (tt, tt))
    also or-gives IsItemSized (two item.CloneDevice d d) (two item.CloneInterface i i) (two-gives Any Any IsItemSized item.CloneDevice d d (any d) (any d) (λ a b i j. (tt, tt))) (two-gives Any Any IsItemSized item.CloneInterface i i (any i) (any i) (λ a b i j. (tt, tt)))
    also or-gives IsItemSized (one item.CloseDevice d) (one item.CloseInterface i or one item.CloseEndpoint e or one item.CloseReader r or one item.CloseWriter w or one item.CloseClient m or one item.CloseFuture f) (one-gives Any IsItemSized item.CloseDevice d (any d) (λ a i. (tt, tt))) (or-gives IsItemSized (one item.CloseInterface i) (one item.CloseEndpoint e or one item.CloseReader r or one item.CloseWriter w or one item.CloseClient m or one item.CloseFuture f) (one-gives Any IsItemSized item.CloseInterface i (any i) (λ a i. (tt, tt))) (or-gives IsItemSized (one item.CloseEndpoint e) (one item.CloseReader r or one item.CloseWriter w or one item.CloseClient m or one item.CloseFuture f) (one-gives Any IsItemSized item.CloseEndpoint e (any e) (λ a i. (tt, tt))) (or-gives IsItemSized (one item.CloseReader r) (one item.CloseWriter w or one item.CloseClient m or one item.CloseFuture f) (one-gives Any IsItemSized item.CloseReader r (any r) (λ a i. (tt, tt))) (or-gives IsItemSized (one item.CloseWriter w) (one item.CloseClient m or one item.CloseFuture f) (one-gives Any IsItemSized item.CloseWriter w (any w) (λ a i. (tt, tt))) (or-gives IsItemSized (one item.CloseClient m) (one item.CloseFuture f) (one-gives Any IsItemSized item.CloseClient m (any m) (λ a i. (tt, tt))) (one-gives Any IsItemSized item.CloseFuture f (any f) (λ a i. (tt, tt))))))))
    also four-gives IsItemSized item.Endpoint e i HH KIND (λ a b c d. (tt, tt))
    also two-gives Any (λ n. n ≤ 65536) IsItemSized item.SubmitIn e N (any e) (number-reads 65536) (λ a n i few. ((few, tt), tt))
    also two-gives Any (λ (b : List ℕ). length b ≤ 65536) IsItemSized item.SubmitOut e BYTES (any e) bytes-reads (λ a b i few. ((few, tt), tt))
    also three-gives Any (λ n. n ≤ 65536) Any IsItemSized item.SubmitInWithDeadline e N TIME (any e) (number-reads 65536) (any TIME) (λ a n t i few j. ((few, tt), tt))
    also three-gives Any (λ (b : List ℕ). length b ≤ 65536) Any IsItemSized item.SubmitOutWithDeadline e BYTES TIME (any e) bytes-reads (any TIME) (λ a b t i few j. ((few, tt), tt))
    also one-gives Any IsItemSized item.Pending e (any e) (λ a i. ((tt, tt), tt))
    also one-gives Any IsItemSized item.Poll e (any e) (λ a i. ((tt, tt), tt))
    also two_steps-gives Any Any IsItemSized item.Wait e TIME (any e) (any TIME) (λ a b ss i j are. ((tt, are), are))
    also three_steps-gives (λ n. n ≤ 65536) IsItemSized item.TransferIn e N TIME (number-reads 65536) (λ a n t ss few are. ((few, are), are))
    also three_steps-gives (λ (b : List ℕ). length b ≤ 65536) IsItemSized item.TransferOut e BYTES TIME bytes-reads (λ a b t ss few are. ((few, are), are))
    also or-gives IsItemSized (one item.Cancel e) (one item.CancelReader r) (one-gives Any IsItemSized item.Cancel e (any e) (λ a i. ((tt, tt), tt))) (one-gives Any IsItemSized item.CancelReader r (any r) (λ a i. (tt, tt)))
    also or-gives IsItemSized (one item.ClearHalt e) (one item.ClearReaderHalt r) (one-gives Any IsItemSized item.ClearHalt e (any e) (λ a i. ((tt, tt), tt))) (one-gives Any IsItemSized item.ClearReaderHalt r (any r) (λ a i. (tt, tt)))
    also three-gives Any Any (λ n. n ≤ 65536) IsItemSized item.Reader r e N (any r) (any e) (number-reads 65536) (λ a b n i j few. (few, tt))
    also or-gives IsItemSized (two item.IntoInner e r) (two item.WriterIntoInner e w) (two-gives Any Any IsItemSized item.IntoInner e r (any e) (any r) (λ a b i j. (tt, tt))) (two-gives Any Any IsItemSized item.WriterIntoInner e w (any e) (any w) (λ a b i j. (tt, tt)))
    also or-gives IsItemSized (two item.SetNumTransfers r N) (two item.SetWriterTransfers w N) (two-gives Any Any IsItemSized item.SetNumTransfers r N (any r) (any N) (λ a b i j. (tt, tt))) (two-gives Any Any IsItemSized item.SetWriterTransfers w N (any w) (any N) (λ a b i j. (tt, tt)))
    also or-gives IsItemSized (two item.SetReadTimeout r TIME) (two item.SetWriteTimeout w TIME) (two-gives Any Any IsItemSized item.SetReadTimeout r TIME (any r) (any TIME) (λ a b i j. (tt, tt))) (two-gives Any Any IsItemSized item.SetWriteTimeout w TIME (any w) (any TIME) (λ a b i j. (tt, tt)))
    also two_steps-gives Any Any IsItemSized (item.Read Plain) r R (any r) (any R) (λ a b ss i j are. (are, are))
    also two-gives Any Any IsItemSized (item.PollRead Plain) r R (any r) (any R) (λ a b i j. (tt, tt))
    also one_steps-gives Any IsItemSized (item.FillBuf Plain) r (any r) (λ a ss i are. (are, are))
    also one-gives Any IsItemSized (item.PollFillBuf Plain) r (any r) (λ a i. (tt, tt))
    also two-gives Any Any IsItemSized (item.Consume Plain) r N (any r) (any N) (λ a b i j. (tt, tt))
    also two_steps-gives Any Any IsItemSized (item.Read UntilShort) r R (any r) (any R) (λ a b ss i j are. (are, are))
    also two-gives Any Any IsItemSized (item.PollRead UntilShort) r R (any r) (any R) (λ a b i j. (tt, tt))
    also one_steps-gives Any IsItemSized (item.FillBuf UntilShort) r (any r) (λ a ss i are. (are, are))
    also one-gives Any IsItemSized (item.PollFillBuf UntilShort) r (any r) (λ a i. (tt, tt))
    also two-gives Any Any IsItemSized (item.Consume UntilShort) r N (any r) (any N) (λ a b i j. (tt, tt))
    also one-gives Any IsItemSized item.IsEnd r (any r) (λ a i. (tt, tt))
    also one-gives Any IsItemSized item.ConsumeEnd r (any r) (λ a i. (tt, tt))
    also three-gives Any Any (λ n. n ≤ 65536) IsItemSized item.Writer w e N (any w) (any e) (number-reads 65536) (λ a b n i j few. (few, tt))
    also two_steps-gives Any Any IsItemSized item.Write w BYTES (any w) (any BYTES) (λ a b ss i j are. (are, are))
    also two-gives Any Any IsItemSized item.PollWrite w BYTES (any w) (any BYTES) (λ a b i j. (tt, tt))
    also one-gives Any IsItemSized item.Submit w (any w) (λ a i. (tt, tt))
    also one-gives Any IsItemSized item.SubmitEnd w (any w) (λ a i. (tt, tt))
    also one_steps-gives Any IsItemSized item.Flush w (any w) (λ a ss i are. (are, are))
    also one_steps-gives Any IsItemSized item.FlushEnd w (any w) (λ a ss i are. (are, are))
    also one-gives Any IsItemSized item.PollFlush w (any w) (λ a i. (tt, tt))
    also one-gives Any IsItemSized item.PollFlushEnd w (any w) (λ a i. (tt, tt))
    also three-gives Any Any Any IsItemSized item.Client m e e (any m) (any e) (any e) (λ a b c i j l. (tt, tt))
    also two_steps-gives Any Any IsItemSized item.Request m BYTES (any m) (any BYTES) (λ a b ss i j are. (are, are))
    also one_steps-gives Any IsItemSized item.Response m (any m) (λ a ss i are. (are, are))
    also one-gives Any IsItemSized item.Outstanding m (any m) (λ a i. (tt, tt))
    also control-gives (λ n. n ≤ 65535) IsItemSized item.ControlIn (number_of 65535) TIME (number-reads 65535) (λ x s n t ss few are. ((few, are), are))
    also control-gives (λ (b : List ℕ). length b ≤ 65535) IsItemSized item.ControlOut control_bytes_of TIME control_bytes-reads (λ x s n t ss few are. ((few, are), are))
    also started-gives (λ n. n ≤ 65535) IsItemSized item.StartControlIn f (number_of 65535) TIME (number-reads 65535) (λ a x s n t few. (few, tt))
    also started-gives (λ (b : List ℕ). length b ≤ 65535) IsItemSized item.StartControlOut f control_bytes_of TIME control_bytes-reads (λ a x s n t few. (few, tt))
    also one-gives Any IsItemSized item.PollFuture f (any f) (λ a i. (tt, tt))
    also one_steps-gives Any IsItemSized item.WaitFuture f (any f) (λ a ss i are. (are, are))
    also five_steps-gives IsItemSized item.GetDescriptor d B B HHHH TIME (λ a b c d e ss are. ((tt, are), are))
    also two_steps-gives Any Any IsItemSized item.SupportedLanguages d TIME (any d) (any TIME) (λ a b ss i j are. ((tt, are), are))
    also four_steps-gives IsItemSized item.StringDescriptor d string_index_of HHHH TIME (λ a b c d ss are. ((tt, are), are))
    also none-gives IsItemSized item.Now (tt, tt)
    also none-gives IsItemSized item.List (tt, tt)
    also none-gives IsItemSized item.Buses (tt, tt)
    also one-gives Any IsItemSized item.Probe PATH (any PATH) (λ a i. (tt, tt))
    also rest-gives IsItemSized item.Match PATH SEL (λ a b. (tt, tt))
    also none-gives IsItemSized item.Hotplug (tt, tt)
    also two-gives Any Any IsItemSized item.OpenPath d PATH (any d) (any PATH) (λ a b i j. (tt, tt))
    also tt

item-fits : (line : List ℕ) → Fits IsItemSized (item_of line)
unfolding item_of form_of named_of
item-fits line = by (words_of line)
  where
    by : (words : List Word) → Fits IsItemSized (form_of words)
    by [] = tt
    by (name ∷ words) = table-gives IsItemSized forms name rows words

-- what a line gives
abbrev IsReadingSized : Reading → Type 0
IsReadingSized Skipped = Unit {0}
IsReadingSized (Read item) = IsItemSized item

reading-fits : (line : List ℕ) → Fits IsReadingSized (reading_of line)
unfolding reading_of own_reading_of item_reading_of
reading-fits line =
    let own = without_cr line in
    cond_both (is_skipped own) (Some Skipped) (item_reading_of own) (Fits IsReadingSized) (λ skipped. tt)
    (λ other. cond_both (list_all is_printable own) (option_and_then (λ item. Some (Read item)) (item_of own)) None (Fits IsReadingSized)
    (λ plain. then-fits IsItemSized IsReadingSized (item_of own) (λ item. Some (Read item)) (item-fits own) (λ item is. is)) (λ strange. tt))

-- one more item
pub sized-append : (xs ys : List Item) → AreItemsSized xs → AreItemsSized ys → AreItemsSized (xs ++ ys)
sized-append [] ys first second = second
sized-append (x ∷ xs) ys first second = (first.0, sized-append xs ys first.1 second)

pub sized-front : (xs ys : List Item) → AreItemsSized (xs ++ ys) → AreItemsSized xs
sized-front [] ys all = tt
sized-front (x ∷ xs) ys all = (all.0, sized-front xs ys all.1)

with_reading-fits : (before : List Item) (reading : Reading) → AreItemsSized before → IsReadingSized reading → Fits AreItemsSized (with_reading before reading)
with_reading-fits before Skipped all is = all
with_reading-fits before (Read item) all is = cond_both (may_follow before item) (Some (before ++ item ∷ [])) None (Fits AreItemsSized) (λ may. sized-append before (item ∷ []) all (is, tt)) (λ not_. tt)

-- and so all items of a script
abbrev Parses : {E : Type 0} → Result (List Item) E → Type 0
Parses (Ok items) = AreItemsSized items
Parses (Err e) = Unit {0}

or_line-sized : (o : Option (List Item)) (n : ℕ) (next : List Item → Result (List Item) ℕ) → ((items : List Item) → AreItemsSized items → Parses (next items)) → Fits AreItemsSized o → Parses (or_line o n next)
or_line-sized None n next go is = tt
or_line-sized (Some items) n next go is = go items is

parse_from-sized : (before : List Item) (n : ℕ) (lines : List (List ℕ)) → AreItemsSized before → Parses (parse_from before n lines)
parse_from-sized before n [] all = all
parse_from-sized before n (line ∷ lines) all =
    or_line-sized (with_line before line) n (λ items. parse_from items (n + 1) lines) (λ items are. parse_from-sized items (n + 1) lines are)
    (then-fits IsReadingSized AreItemsSized (reading_of line) (with_reading before) (reading-fits line) (λ reading is. with_reading-fits before reading all is))

malformed-sized : (r : Result (List Item) ℕ) → Parses r → Parses (or_malformed r)
malformed-sized (Ok items) is = is
malformed-sized (Err line) is = tt

script-sized : (bytes : List ℕ) → Parses (script_of bytes)
unfolding script_of parse
script-sized bytes =
    cond_both (nat_lt 1048576 (length bytes)) (Err errors.TooLong) (or_malformed (parse bytes)) Parses (λ long. tt) (λ short. malformed-sized (parse bytes) (parse_from-sized [] 1 (lines_of bytes) tt))

pub items-sized : (bytes : List ℕ) (items : List Item) → script_of bytes ≡ Ok items → AreItemsSized items
items-sized bytes items is = subst Parses is (script-sized bytes)
