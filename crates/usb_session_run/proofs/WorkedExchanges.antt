-- Messages that are echoed, over four scripts, computed by the definitions alone.
use Rattle.std.proofs.Common.{◌≡◌, ℕ, ◌-◌, ◌^◌, arith, List, [], ◌∷◌, ◌++◌, Some, None, false, refl, inl}
use Rattle.usb_desc.specs.declared.types.TransferType.TheVariants.{Interrupt}
use Rattle.usb_kernel.specs.declared.event.Event.{Event}
use Rattle.usb_kernel.specs.declared.event.Event.TheVariants.{Submit, Reap}
use Rattle.usb_kernel.specs.declared.event.Event.TheVariants as event
use Rattle.usb_kernel.specs.declared.event.Body.TheVariants.{Wanted, Sent}
use Rattle.usb_kernel_devices.specs.declared.step.KernelStep.TheVariants.{Echo}
use Rattle.usb_script_words.specs.declared.endpoint_kind.EndpointKind.TheVariants.{InterruptIn, InterruptOut}
use Rattle.usb_script_words.specs.declared.framing.Framing.TheVariants.{UntilShort}
use Rattle.usb_script_lines.specs.declared.item.Item.{Item}
use Rattle.usb_script_lines.specs.declared.item.Item.TheVariants as item
use Rattle.usb_io.specs.Streams.{Mark, Byte, End}
use Rattle.usb_io.specs.Writes.{Accept, Finish, marks_of}
use Rattle.usb_session_streams.specs.Told.{WriterCalls}
use Rattle.usb_io.specs.Messages.{messages}
use Rattle.usb_session_calls.specs.Names.{named}
use Rattle.usb_session_calls.specs.State.{State, Reader, Writer}
use Rattle.usb_session.specs.Output.{start, behind}
use Rattle.usb_session.proofs.WorkedOutput.{output_on_literals}
use Rattle.usb_session_run.specs.Exchanges.{OnlyExchange}

-- the writer of number 0 in one state, with its calls, and the reader of number 0 in the same or a later one, with what it
-- consumed; the journal of the later state, on which the two do nothing but exchange messages; and the messages that were ended
pub record HaveExchanged (first state : State) (x : Writer) (y : Reader) (c : WriterCalls) (consumed : List Mark) (past : List Event) (read sent : List (List ℕ)) : Type 0 where
  pub writer : named first.writers 0 ≡ Some x
  pub calls : x.calls ≡ Some c
  pub reader : named state.readers 0 ≡ Some y
  pub framed : y.consumed ≡ Some consumed
  pub journal : state.host.kernel.past ≡ past
  pub only : OnlyExchange past x y c
  pub are_read : messages consumed ≡ read
  pub are_sent : messages (marks_of c.accepted) ≡ sent

-- a device with an interface 5 in a configuration 7, and in it an interrupt IN endpoint 81 and an interrupt OUT endpoint 02 for packets of at most 4 bytes
abbrev pub descriptors : List ℕ
descriptors = 18 ∷ 1 ∷ 0 ∷ 2 ∷ 0 ∷ 0 ∷ 0 ∷ 64 ∷ 170 ∷ 170 ∷ 187 ∷ 187 ∷ 0 ∷ 1 ∷ 0 ∷ 0 ∷ 0 ∷ 1
    ∷ 9 ∷ 2 ∷ 32 ∷ 0 ∷ 1 ∷ 7 ∷ 0 ∷ 128 ∷ 50
    ∷ 9 ∷ 4 ∷ 5 ∷ 0 ∷ 2 ∷ 3 ∷ 0 ∷ 0 ∷ 0
    ∷ 7 ∷ 5 ∷ 129 ∷ 3 ∷ 4 ∷ 0 ∷ 10
    ∷ 7 ∷ 5 ∷ 2 ∷ 3 ∷ 4 ∷ 0 ∷ 10
    ∷ []

-- both are open, with a writer whose transfers take 8 bytes, and a reader
-- whose transfers take 12
abbrev pub opened : List Item → List Item
opened lines =
    item.Device 0 1 6 2 7 descriptors ∷ item.Open 0 1 6 ∷ item.Claim 0 5 0 ∷ item.Endpoint 0 0 129 InterruptIn ∷ item.Endpoint 1 0 2 InterruptOut
    ∷ item.Writer 0 1 8 ∷ item.Reader 0 0 12 ∷ lines

abbrev pub behind_all : List Item → State
behind_all lines = behind (start lines) lines

-- what is open then: the writer with these tickets taken and pending, and the reader, which has read all that it took
abbrev pub writer_with : List ℕ → List ℕ → WriterCalls → Writer
writer_with taken pending c =
    record {
      state = record {
        endpoint = record { device = 0; address = 2; kind = Interrupt; maximum = 4; key = 1; pending = pending };
        n = 1;
        size = 8;
        timeout = 2 ^ 64 - 1;
        buffer = None;
        begun = false;
      };
      taken = taken;
      calls = Some c;
    }

abbrev pub reader_with : List ℕ → List Mark → Reader
reader_with given consumed =
    record {
      state = record {
        endpoint = record { device = 0; address = 129; kind = Interrupt; maximum = 4; key = 0; pending = [] };
        n = 1;
        size = 12;
        timeout = 2 ^ 64 - 1;
        unread = [];
        ended = false;
        error = None;
      };
      before = [];
      taken = 1 ∷ [];
      given = given;
      consumed = Some consumed;
    }

-- five bytes are written, echoed in two packets, and read
abbrev pub five : List Item
five =
    opened
    (item.Write 0 (1 ∷ 2 ∷ 3 ∷ 4 ∷ 5 ∷ []) [] ∷ item.SubmitEnd 0 ∷ item.Read UntilShort 0 20 (Echo 0 2 129 ∷ Echo 0 2 129 ∷ [])
    ∷ item.Read UntilShort 0 20 [] ∷ item.ConsumeEnd 0 ∷ [])

abbrev pub five_calls : WriterCalls
five_calls = record { accepted = Finish ∷ Accept (1 ∷ 2 ∷ 3 ∷ 4 ∷ 5 ∷ []) ∷ []; failures = [] }

abbrev pub five_consumed : List Mark
five_consumed = Byte 1 ∷ Byte 2 ∷ Byte 3 ∷ Byte 4 ∷ Byte 5 ∷ End ∷ []

abbrev pub five_past : List Event
five_past =
    Reap 1 ∷ Reap 0 ∷ event.Echo 0 2 129 ∷ event.Echo 0 2 129 ∷ Submit 1 0 129 4 (Wanted 12) 12 None ∷ Submit 0 0 2 4 (Sent (1 ∷ 2 ∷ 3 ∷ 4 ∷ 5 ∷ [])) 8 None ∷ []

pub five_bytes : HaveExchanged (behind_all five) (behind_all five) (writer_with [] (0 ∷ []) five_calls) (reader_with (1 ∷ 2 ∷ 3 ∷ 4 ∷ 5 ∷ []) five_consumed) five_calls five_consumed five_past
    ((1 ∷ 2 ∷ 3 ∷ 4 ∷ 5 ∷ []) ∷ []) ((1 ∷ 2 ∷ 3 ∷ 4 ∷ 5 ∷ []) ∷ [])
unfolding output_on_literals
five_bytes =
    record {
      writer = refl;
      calls = refl;
      reader = refl;
      framed = refl;
      journal = refl;
      only =
          record {
            device = refl;
            maximum = refl;
            echoes = (tt, (tt, (inl (refl, refl, refl), (inl (refl, refl, refl), ((λ a b. absurd (omega arith), λ a b. refl), ((λ a b. refl, λ a b. absurd (omega arith)), tt))))));
            whole = tt;
          };
      are_read = refl;
      are_sent = refl;
    }

-- an empty message is read; of the next one, of a byte, nothing yet
abbrev pub none : List Item
none =
    opened
    (item.SubmitEnd 0 ∷ item.Read UntilShort 0 20 (Echo 0 2 129 ∷ []) ∷ item.ConsumeEnd 0 ∷ item.Write 0 (7 ∷ []) [] ∷ item.SubmitEnd 0 ∷ [])

abbrev pub none_calls : WriterCalls
none_calls = record { accepted = Finish ∷ Accept (7 ∷ []) ∷ Finish ∷ []; failures = [] }

abbrev pub none_past : List Event
none_past =
    Submit 2 0 2 4 (Sent (7 ∷ [])) 8 None ∷ Reap 1 ∷ Reap 0 ∷ event.Echo 0 2 129 ∷ Submit 1 0 129 4 (Wanted 12) 12 None ∷ Submit 0 0 2 4 (Sent []) 0 None ∷ []

pub no_bytes : HaveExchanged (behind_all none) (behind_all none) (writer_with (0 ∷ []) (2 ∷ []) none_calls) (reader_with [] (End ∷ [])) none_calls (End ∷ []) none_past ([] ∷ []) ([] ∷ (7 ∷ []) ∷ [])
unfolding output_on_literals
no_bytes =
    record {
      writer = refl;
      calls = refl;
      reader = refl;
      framed = refl;
      journal = refl;
      only =
          record {
            device = refl;
            maximum = refl;
            echoes = ((λ a b. refl, λ a b. absurd (omega arith)), (tt, (tt, (inl (refl, refl, refl), ((λ a b. absurd (omega arith), λ a b. refl), ((λ a b. refl, λ a b. absurd (omega arith)), tt))))));
            whole = tt;
          };
      are_read = refl;
      are_sent = refl;
    }

-- five bytes are written and echoed in two packets, of which one byte is read; then the writer is gone, by this line, and the other
-- bytes are read
abbrev pub five_sent : List Item
five_sent =
    opened
    (item.Write 0 (1 ∷ 2 ∷ 3 ∷ 4 ∷ 5 ∷ []) [] ∷ item.SubmitEnd 0 ∷ item.Read UntilShort 0 1 (Echo 0 2 129 ∷ Echo 0 2 129 ∷ []) ∷ [])

abbrev pub five_read : Item → List Item
five_read gone = gone ∷ item.Read UntilShort 0 20 [] ∷ item.ConsumeEnd 0 ∷ []

-- in both states the script is the whole one
abbrev pub behind_first : List Item → List Item → State
behind_first before middle = behind (start (before ++ middle)) before

-- no writer of number 0 is open then, and yet its message is read
pub record AreReadWithout (gone : Item) : Type 0 where
  pub none : named (behind_all (five_sent ++ five_read gone)).writers 0 ≡ None
  pub exchanged : HaveExchanged (behind_first five_sent (five_read gone)) (behind_all (five_sent ++ five_read gone)) (writer_with [] (0 ∷ []) five_calls)
      (reader_with (1 ∷ 2 ∷ 3 ∷ 4 ∷ 5 ∷ []) five_consumed) five_calls five_consumed five_past ((1 ∷ 2 ∷ 3 ∷ 4 ∷ 5 ∷ []) ∷ []) ((1 ∷ 2 ∷ 3 ∷ 4 ∷ 5 ∷ []) ∷ [])

-- it was closed
pub closed_before : AreReadWithout (item.CloseWriter 0)
unfolding output_on_literals
closed_before =
    record {
      none = refl;
      exchanged =
          record {
            writer = refl;
            calls = refl;
            reader = refl;
            framed = refl;
            journal = refl;
            only = five_bytes.only;
            are_read = refl;
            are_sent = refl;
          };
    }

-- or gave its endpoint back
pub given_back_before : AreReadWithout (item.WriterIntoInner 2 0)
unfolding output_on_literals
given_back_before =
    record {
      none = refl;
      exchanged =
          record {
            writer = refl;
            calls = refl;
            reader = refl;
            framed = refl;
            journal = refl;
            only = five_bytes.only;
            are_read = refl;
            are_sent = refl;
          };
    }
