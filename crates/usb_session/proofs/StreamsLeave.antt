-- Calls that are no reader's leave the readers, those that are no writer's the writers, and those that are no client's the clients.
use Rattle.std.proofs.Common.{◌≡◌, ℕ, false, refl}
use Rattle.std.specs.Prelude.{◌&&◌, if◌then◌else◌}
use Rattle.std.proofs.lemmas.Bool.{cond_both}
use Rattle.usb_desc.specs.declared.types.Direction.TheVariants.{In, Out}
use Rattle.usb_io.specs.Readers.{is_end}
use Rattle.usb_session_calls.specs.Names.{named, is_free}
use Rattle.usb_session_calls.specs.declared.call.Call.{Call}
use Rattle.usb_session_calls.specs.declared.call.Call.TheVariants as families
use Rattle.usb_session_calls.specs.declared.call.OpenCall.TheVariants as opens
use Rattle.usb_session_calls.specs.declared.call.CloseCall.TheVariants as closes
use Rattle.usb_session_calls.specs.declared.call.ReaderCall.{ReaderCall}
use Rattle.usb_session_calls.specs.declared.call.ReaderCall.TheVariants as readers
use Rattle.usb_session_calls.specs.declared.call.WriterCall.{WriterCall}
use Rattle.usb_session_calls.specs.declared.call.WriterCall.TheVariants as writers
use Rattle.usb_session_calls.specs.declared.call.ClientCall.{ClientCall}
use Rattle.usb_session_calls.specs.declared.call.ClientCall.TheVariants as clients
use Rattle.usb_session_calls.specs.State.{State, Reader, Writer, Client}
use Rattle.usb_session_calls.specs.Answer.{Answer, condition_answer, ok_answer}
use Rattle.usb_session_calls.specs.Submits.{has_direction}
use Rattle.usb_session_calls.specs.Readers.{with_reader, reader_on, reader_answer, inner_answer, close_reader_answer}
use Rattle.usb_session_calls.specs.Writers.{with_writer, writer_on, writer_answer, writer_inner_answer, close_writer_answer}
use Rattle.usb_session_calls.specs.Steps.{with_steps}
use Rattle.usb_session_calls.specs.CalledReaders.{reader_called, on_reader}
use Rattle.usb_session_calls.specs.CalledWriters.{writer_called, on_writer}
use Rattle.usb_session_calls.specs.CalledClients.{client_called, on_client}
use Rattle.usb_session_calls.specs.Clients.{is_idle, with_client, client_on, client_answer, close_client_answer}
use Rattle.usb_session.specs.CallAnswers.{call_answer}
use Rattle.usb_session.proofs.Barred.{bar-keeps, free-keeps, open-keeps}
use Rattle.usb_session.proofs.OtherLines.{is_of_reader, is_of_writer, is_of_client, other-leaves}

-- a call of a writer leaves readers and clients, one of a client readers and writers, and one of a reader writers and clients
abbrev LeftByWriter : State → State → Type 0
LeftByWriter old new = (new.readers ≡ old.readers) × (new.clients ≡ old.clients)

abbrev LeftByClient : State → State → Type 0
LeftByClient old new = (new.readers ≡ old.readers) × (new.writers ≡ old.writers)

abbrev LeftByReader : State → State → Type 0
LeftByReader old new = (new.writers ≡ old.writers) × (new.clients ≡ old.clients)

-- a writer is made, gives its endpoint back, and is closed
writer-leaves : (state : State) (w e size : ℕ) → LeftByWriter state (writer_answer state w e size).state
unfolding writer_answer
writer-leaves state w e size =
    open-keeps (LeftByWriter state) state (refl, refl) (named state.endpoints e) (writer_on state w e size) (λ h is.
    let made = ok_answer (with_writer state w e size h) in
    free-keeps (LeftByWriter state) state (refl, refl) (is_free state.writers w) (if has_direction Out h.state then made else condition_answer state) (λ free.
    free-keeps (LeftByWriter state) state (refl, refl) (has_direction Out h.state) made (λ output. (refl, refl))))

writer_inner-leaves : (state : State) (e w : ℕ) → LeftByWriter state (writer_inner_answer state e w).state
unfolding writer_inner_answer
writer_inner-leaves state e w = open-keeps (LeftByWriter state) state (refl, refl) (named state.writers w) _ (λ x is. free-keeps (LeftByWriter state) state (refl, refl) _ _ (λ free. (refl, refl)))

writer_close-leaves : (state : State) (w : ℕ) → LeftByWriter state (close_writer_answer state w).state
unfolding close_writer_answer
writer_close-leaves state w = open-keeps (LeftByWriter state) state (refl, refl) (named state.writers w) _ (λ x is. (refl, refl))

-- calls on a writer
writer_called-leaves : (call : WriterCall) (state : State) (w : ℕ) (x : Writer) → LeftByWriter state (writer_called call state w x).state
writer_called-leaves (writers.SetWriteTimeout timeout) state w x = (refl, refl)
writer_called-leaves call state w x = bar-keeps (LeftByWriter state) state (refl, refl) _ _ (refl, refl)

on_writer-leaves : (state : State) (w : ℕ) (call : WriterCall) → LeftByWriter state (on_writer state w call).state
unfolding on_writer
on_writer-leaves state w call = open-keeps (LeftByWriter state) state (refl, refl) (named state.writers w) (writer_called call state w) (λ x is. writer_called-leaves call state w x)

-- a client is made, and is closed
client-leaves : (state : State) (m a b : ℕ) → LeftByClient state (client_answer state m a b).state
unfolding client_answer
client-leaves state m a b =
    open-keeps (LeftByClient state) state (refl, refl) (named state.endpoints a) _ (λ out here.
    open-keeps (LeftByClient state) state (refl, refl) (named state.endpoints b) (client_on state m a b out) (λ inp there.
    free-keeps (LeftByClient state) state (refl, refl) (is_free state.clients m && (is_idle Out out.state && is_idle In inp.state)) (ok_answer (with_client state m a b out inp)) (λ may. (refl, refl))))

client_close-leaves : (state : State) (m : ℕ) → LeftByClient state (close_client_answer state m).state
unfolding close_client_answer
client_close-leaves state m = open-keeps (LeftByClient state) state (refl, refl) (named state.clients m) _ (λ x is. (refl, refl))

-- calls on a client
client_called-leaves : (call : ClientCall) (state : State) (m : ℕ) (x : Client) → LeftByClient state (client_called call state m x).state
client_called-leaves clients.Outstanding state m x = (refl, refl)
client_called-leaves call state m x = bar-keeps (LeftByClient state) state (refl, refl) _ _ (refl, refl)

on_client-leaves : (state : State) (m : ℕ) (call : ClientCall) → LeftByClient state (on_client state m call).state
unfolding on_client
on_client-leaves state m call = open-keeps (LeftByClient state) state (refl, refl) (named state.clients m) (client_called call state m) (λ x is. client_called-leaves call state m x)

-- a reader is made, gives its endpoint back, and is closed
reader-leaves : (state : State) (r e size : ℕ) → LeftByReader state (reader_answer state r e size).state
unfolding reader_answer
reader-leaves state r e size =
    open-keeps (LeftByReader state) state (refl, refl) (named state.endpoints e) (reader_on state r e size) (λ h is.
    let made = ok_answer (with_reader state r e size h) in
    free-keeps (LeftByReader state) state (refl, refl) (is_free state.readers r) (if has_direction In h.state then made else condition_answer state) (λ free.
    free-keeps (LeftByReader state) state (refl, refl) (has_direction In h.state) made (λ input. (refl, refl))))

reader_inner-leaves : (state : State) (e r : ℕ) → LeftByReader state (inner_answer state e r).state
unfolding inner_answer
reader_inner-leaves state e r = open-keeps (LeftByReader state) state (refl, refl) (named state.readers r) _ (λ x is. free-keeps (LeftByReader state) state (refl, refl) _ _ (λ free. (refl, refl)))

reader_close-leaves : (state : State) (r : ℕ) → LeftByReader state (close_reader_answer state r).state
unfolding close_reader_answer
reader_close-leaves state r = open-keeps (LeftByReader state) state (refl, refl) (named state.readers r) _ (λ x is. (refl, refl))

-- calls on a reader
reader_called-leaves : (call : ReaderCall) (state : State) (r : ℕ) (x : Reader) → LeftByReader state (reader_called call state r x).state
reader_called-leaves readers.IsEnd state r x = (refl, refl)
reader_called-leaves readers.ConsumeEnd state r x = cond_both (is_end x.state) _ _ (λ (a : Answer). LeftByReader state a.state) (λ is. (refl, refl)) (λ no_. (refl, refl))
reader_called-leaves (readers.SetReadTimeout timeout) state r x = (refl, refl)
reader_called-leaves readers.Cancel state r x = (refl, refl)
reader_called-leaves readers.ClearHalt state r x = (refl, refl)
reader_called-leaves call state r x = bar-keeps (LeftByReader state) state (refl, refl) _ _ (refl, refl)

on_reader-leaves : (state : State) (r : ℕ) (call : ReaderCall) → LeftByReader state (on_reader state r call).state
unfolding on_reader
on_reader-leaves state r call = open-keeps (LeftByReader state) state (refl, refl) (named state.readers r) (reader_called call state r) (λ x is. reader_called-leaves call state r x)

-- so calls that are none of its kind leave each kind
pub leaves-readers : (state : State) (call : Call) → is_of_reader call ≡ false → (call_answer state call).state.readers ≡ state.readers
unfolding call_answer
leaves-readers state (families.Writer w call steps) other = (on_writer-leaves (with_steps state steps) w call).0
leaves-readers state (families.Open (opens.Writer w e size)) other = (writer-leaves state w e size).0
leaves-readers state (families.Open (opens.WriterInner e w)) other = (writer_inner-leaves state e w).0
leaves-readers state (families.Close (closes.Writer w)) other = (writer_close-leaves state w).0
leaves-readers state (families.Client m call steps) other = (on_client-leaves (with_steps state steps) m call).0
leaves-readers state (families.Open (opens.Client m out inp)) other = (client-leaves state m out inp).0
leaves-readers state (families.Close (closes.Client m)) other = (client_close-leaves state m).0
leaves-readers state call other = (other-leaves state call other).0

pub leaves-writers : (state : State) (call : Call) → is_of_writer call ≡ false → (call_answer state call).state.writers ≡ state.writers
unfolding call_answer
leaves-writers state (families.Reader r call steps) other = (on_reader-leaves (with_steps state steps) r call).0
leaves-writers state (families.Open (opens.Reader r e size)) other = (reader-leaves state r e size).0
leaves-writers state (families.Open (opens.ReaderInner e r)) other = (reader_inner-leaves state e r).0
leaves-writers state (families.Close (closes.Reader r)) other = (reader_close-leaves state r).0
leaves-writers state (families.Client m call steps) other = (on_client-leaves (with_steps state steps) m call).1
leaves-writers state (families.Open (opens.Client m out inp)) other = (client-leaves state m out inp).1
leaves-writers state (families.Close (closes.Client m)) other = (client_close-leaves state m).1
leaves-writers state call other = (other-leaves state call other).1

pub leaves-clients : (state : State) (call : Call) → is_of_client call ≡ false → (call_answer state call).state.clients ≡ state.clients
unfolding call_answer
leaves-clients state (families.Reader r call steps) other = (on_reader-leaves (with_steps state steps) r call).1
leaves-clients state (families.Open (opens.Reader r e size)) other = (reader-leaves state r e size).1
leaves-clients state (families.Open (opens.ReaderInner e r)) other = (reader_inner-leaves state e r).1
leaves-clients state (families.Close (closes.Reader r)) other = (reader_close-leaves state r).1
leaves-clients state (families.Writer w call steps) other = (on_writer-leaves (with_steps state steps) w call).1
leaves-clients state (families.Open (opens.Writer w e size)) other = (writer-leaves state w e size).1
leaves-clients state (families.Open (opens.WriterInner e w)) other = (writer_inner-leaves state e w).1
leaves-clients state (families.Close (closes.Writer w)) other = (writer_close-leaves state w).1
leaves-clients state call other = (other-leaves state call other).2
