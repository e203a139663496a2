-- The steps of a line: each first word, and what the words behind it spell. The table has docs/SCRIPT.md's rows, and a
-- field is called as there.
use Rattle.std.specs.Prelude.{[], ◌∷◌, List, codes, Option, Some, None}
use Rattle.usb_kernel_devices.specs.declared.step.KernelStep.{KernelStep}
use Rattle.usb_kernel_devices.specs.declared.step.KernelStep.TheVariants.{Packet, Ack, Echo, Fail, Unplug, Clock, Timer, Reap, Refuse}
use Rattle.usb_script_words.specs.Words.{number_of}
use Rattle.usb_script_words.specs.Fields.{Word, none, one, two, three}
use Rattle.usb_script_words.specs.FieldForms.{k, T, HH, ERRNO, BYTES, CALL}
use Rattle.usb_script_words.specs.Tables.{◌or◌, Table, read_by}

-- each first word, and the form of its step
unfoldable pub step_forms : Table KernelStep
step_forms =
    (codes "pkt", three Packet k HH BYTES)
    ∷ (codes "ack", two Ack k HH)
    ∷ (codes "echo", three Echo k HH HH)
    ∷ (codes "fail", three Fail k HH ERRNO)
    ∷ (codes "unplug", one Unplug k)
    -- a TIME that isn't `max`
    ∷ (codes "clock", one Clock (number_of 1000000000000000000))
    ∷ (codes "timer", none Timer)
    ∷ (codes "refuse", three Refuse k CALL ERRNO)
    -- alone the lowest ticket that is finished and not reaped, or else this one
    ∷ (codes "reap", none (Reap None) or one (λ ticket. Reap (Some ticket)) T)
    ∷ []

-- the step of these words
unfoldable pub step_of : List Word → Option KernelStep
step_of [] = None
step_of (name ∷ words) = read_by step_forms name words
