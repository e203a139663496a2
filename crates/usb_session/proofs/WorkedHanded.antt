-- What readers hand over, over two scripts, computed by the definitions alone.
use Rattle.std.proofs.Common.{◌≡◌, ℕ, Bool, ◌-◌, ◌^◌, List, [], ◌∷◌, ◌++◌, Some, None, true, false, refl}
use Rattle.usb_desc.specs.declared.types.TransferType.TheVariants.{Interrupt}
use Rattle.usb_kernel_devices.specs.declared.step.KernelStep.TheVariants.{Packet, Reap}
use Rattle.usb_script_words.specs.declared.endpoint_kind.EndpointKind.TheVariants.{InterruptIn}
use Rattle.usb_script_words.specs.declared.framing.Framing.TheVariants.{Plain}
use Rattle.usb_script_lines.specs.declared.item.Item.{Item}
use Rattle.usb_script_lines.specs.declared.item.Item.TheVariants as item
use Rattle.usb_session_streams.specs.Handed.{completed_bytes}
use Rattle.usb_session_calls.specs.Names.{named}
use Rattle.usb_session_calls.specs.State.{State, Reader}
use Rattle.usb_session.specs.Output.{start, behind}
use Rattle.usb_session.proofs.WorkedOutput.{output_on_literals}
use Rattle.usb_session.proofs.WorkedDevices.{interrupt_bytes}

-- behind the lines of a script: the reader of number 0, and the bytes of the completions of the tickets that it took
pub record HaveHandedOver (state : State) (x : Reader) (bytes : List ℕ) : Type 0 where
  pub reader : named state.readers 0 ≡ Some x
  pub completed : completed_bytes state.host.kernel.past x.taken ≡ bytes
  pub handed : x.given ++ x.state.unread ≡ bytes

-- an interrupt IN endpoint with packets of at most 4 bytes is open
abbrev pub on_endpoint : List Item → List Item
on_endpoint lines = item.Device 0 1 6 2 7 interrupt_bytes ∷ item.Open 0 1 6 ∷ item.Claim 0 5 0 ∷ item.Endpoint 0 0 129 InterruptIn ∷ lines

abbrev pub behind_all : List Item → State
behind_all lines = behind (start lines) lines

-- a reader of it, with no ticket pending
abbrev pub reader_with : ℕ → List ℕ → Bool → List ℕ → List ℕ → List ℕ → Reader
reader_with n unread ended before taken given =
    record {
      state = record {
        endpoint = record { device = 0; address = 129; kind = Interrupt; maximum = 4; key = 0; pending = [] };
        n = n;
        size = 8;
        timeout = 2 ^ 64 - 1;
        unread = unread;
        ended = ended;
        error = None;
      };
      before = before;
      taken = taken;
      given = given;
      consumed = None;
    }

-- two bytes of a short packet are read, and the third is lent and taken off; of a transfer that is cancelled with four bytes three
-- are read
abbrev pub cancelled : List Item
cancelled =
    on_endpoint
    (item.Reader 0 0 8 ∷ item.Read Plain 0 2 (Packet 0 129 (1 ∷ 2 ∷ 3 ∷ []) ∷ []) ∷ item.FillBuf Plain 0 [] ∷ item.Consume Plain 0 1
    ∷ item.PollRead Plain 0 1 ∷ item.Steps (Packet 0 129 (4 ∷ 5 ∷ 6 ∷ 7 ∷ []) ∷ []) ∷ item.CancelReader 0 ∷ item.Read Plain 0 3 (Reap None ∷ []) ∷ [])

pub cancelled_bytes : HaveHandedOver (behind_all cancelled) (reader_with 0 (7 ∷ []) false [] (0 ∷ 1 ∷ []) (1 ∷ 2 ∷ 3 ∷ 4 ∷ 5 ∷ 6 ∷ [])) (1 ∷ 2 ∷ 3 ∷ 4 ∷ 5 ∷ 6 ∷ 7 ∷ [])
unfolding output_on_literals
cancelled_bytes = record { reader = refl; completed = refl; handed = refl }

-- an endpoint of which a ticket was taken and one is pending becomes a reader's
abbrev pub taken_over : List Item
taken_over =
    on_endpoint
    (item.SubmitIn 0 4 ∷ item.Steps (Packet 0 129 (8 ∷ []) ∷ Reap None ∷ []) ∷ item.Poll 0 ∷ item.SubmitIn 0 4 ∷ item.Reader 0 0 8
    ∷ item.Read Plain 0 1 (Packet 0 129 (9 ∷ 10 ∷ []) ∷ []) ∷ [])

pub taken_over_bytes : HaveHandedOver (behind_all taken_over) (reader_with 1 (10 ∷ []) true (0 ∷ []) (1 ∷ []) (9 ∷ [])) (9 ∷ 10 ∷ [])
unfolding output_on_literals
taken_over_bytes = record { reader = refl; completed = refl; handed = refl }
