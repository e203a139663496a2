-- How large what a journal has is, and which way it goes.
use Rattle.std.specs.Prelude.{◌≤◌, List, [], ◌∷◌, length}
use Rattle.usb_kernel.specs.declared.event.Event.{Event}
use Rattle.usb_kernel.specs.declared.event.Event.TheVariants.{Submit, Refuse, Packet}
use Rattle.usb_trace_lines.specs.Directions.{IsBodyDirected}
use Rattle.usb_trace_lines.specs.Forms.{IsBodySized}

-- the maximum and the body of a submission, refused or not, whose body goes with the direction of its endpoint, and the bytes of a packet
abbrev pub IsBounded : Event → Type 0
IsBounded (Submit t d e m body room deadline) = (m ≤ 65536) × IsBodySized body × IsBodyDirected e body
IsBounded (Refuse t d e m body room errno) = (m ≤ 65536) × IsBodySized body × IsBodyDirected e body
IsBounded (Packet d e bytes) = length bytes ≤ 65536
IsBounded _ = Unit {0}

-- each event of a journal is so
abbrev pub AreBounded : List Event → Type 0
AreBounded [] = Unit {0}
AreBounded (event ∷ before) = IsBounded event × AreBounded before
