-- The kinds of items: setup lines, calls and lines of steps; and the steps of an item.
use Rattle.std.specs.Prelude.{ℕ, Bool, true, false, not, ◌&&◌, List, [], length}
use Rattle.std.specs.List.{sum_by}
use Rattle.usb_kernel_devices.specs.declared.step.KernelStep.{KernelStep}
use Rattle.usb_script_lines.specs.declared.item.Item.{Item}
use Rattle.usb_script_lines.specs.declared.item.Item.TheVariants.{Device, Driver, Attribute, Denied, Child, Link, Entry, Root, Uevent, Reset, Wait, TransferIn, TransferOut, Read, FillBuf, Write, Flush, FlushEnd, Request, Response, ControlIn, ControlOut, WaitFuture, GetDescriptor, SupportedLanguages, StringDescriptor, Steps}
use Rattle.usb_script_lines.specs.declared.reading.Reading.{Reading}
use Rattle.usb_script_lines.specs.declared.reading.Reading.TheVariants as reading

-- a setup line declares what is there before the first call
abbrev pub is_setup : Item → Bool
is_setup (Device device bus address speed configuration descriptors) = true
is_setup (Driver device number) = true
is_setup (Attribute path name value) = true
is_setup (Denied path name errno) = true
is_setup (Child path name) = true
is_setup (Link path name target) = true
is_setup (Entry name path) = true
is_setup (Root errno) = true
is_setup (Uevent groups bytes) = true
is_setup item = false

-- a line of steps, by itself
abbrev pub is_steps : Item → Bool
is_steps (Steps steps) = true
is_steps item = false

-- every other item is a call, which has an answer
abbrev pub is_call : Item → Bool
is_call item = not (is_setup item) && not (is_steps item)

-- the steps of an item, in order
abbrev pub steps_in : Item → List KernelStep
steps_in (Wait endpoint timeout steps) = steps
steps_in (TransferIn endpoint wanted timeout steps) = steps
steps_in (TransferOut endpoint bytes timeout steps) = steps
steps_in (Read framing reader wanted steps) = steps
steps_in (FillBuf framing reader steps) = steps
steps_in (Write writer bytes steps) = steps
steps_in (Flush writer steps) = steps
steps_in (FlushEnd writer steps) = steps
steps_in (Request client body steps) = steps
steps_in (Response client steps) = steps
steps_in (ControlIn target setup wanted timeout steps) = steps
steps_in (ControlOut target setup bytes timeout steps) = steps
steps_in (WaitFuture future steps) = steps
steps_in (GetDescriptor device kind index language timeout steps) = steps
steps_in (SupportedLanguages device timeout steps) = steps
steps_in (StringDescriptor device index language timeout steps) = steps
steps_in (Steps steps) = steps
steps_in item = []

-- how many places of the kernel an item may use: one for each of its steps, and one for a reset
abbrev pub places_in : Item → ℕ
places_in (Reset device) = 1
places_in item = length (steps_in item)

-- how many places the item of a line may use, if it gives one
abbrev pub places_read : Reading → ℕ
places_read reading.Skipped = 0
places_read (reading.Read item) = places_in item

-- how many places these items may use in all
abbrev pub place_count : List Item → ℕ
place_count items = sum_by places_in items
