-- Scripts worked out by the definition alone.
use Rattle.std.proofs.Common.{◌≡◌, ◌++◌, [], ◌∷◌, codes, Some, None, Ok, Err, refl}
use Rattle.usb_desc.specs.declared.control.ControlType.TheVariants.{Standard, Class, Vendor}
use Rattle.usb_desc.specs.declared.control.Recipient.TheVariants as recipient
use Rattle.usb_script_words.specs.declared.control.ControlTarget.TheVariants as target
use Rattle.usb_script_words.specs.declared.endpoint_kind.EndpointKind.TheVariants.{BulkIn, BulkOut, InterruptIn, InterruptOut}
use Rattle.usb_script_words.specs.declared.framing.Framing.TheVariants.{Plain, UntilShort}
use Rattle.usb_script_lines.specs.declared.item.Item.TheVariants.{Device, Driver, Now, Open, DeviceDescriptor, Descriptors, CloneDevice, CloseDevice, ActiveConfiguration, Speed, SetConfiguration, Reset, DetachDriver, AttachDriver, Claim, DetachAndClaim, CloneInterface, CloseInterface, SetAltSetting, GetAltSetting, InterfaceDescriptor, Release, Endpoint, SubmitIn, SubmitOut, SubmitInWithDeadline, SubmitOutWithDeadline, Pending, Poll, Wait, TransferIn, TransferOut, Cancel, ClearHalt, CloseEndpoint, Reader, IntoInner, SetNumTransfers, SetReadTimeout, CancelReader, ClearReaderHalt, CloseReader, PollRead, FillBuf, PollFillBuf, Consume, IsEnd, ConsumeEnd, Writer, WriterIntoInner, SetWriterTransfers, SetWriteTimeout, CloseWriter, Write, PollWrite, Submit, SubmitEnd, Flush, PollFlush, FlushEnd, PollFlushEnd, ControlIn, ControlOut, StartControlIn, StartControlOut, PollFuture, WaitFuture, GetDescriptor, SupportedLanguages, StringDescriptor, CloseFuture, Steps}
use Rattle.usb_script_lines.specs.declared.item.Item.TheVariants as item
use Rattle.usb_script.specs.declared.error.SessionError.TheVariants.{Malformed}
use Rattle.usb_script_lines.specs.declared.reading.Reading.TheVariants.{Skipped, Read}
use Rattle.usb_kernel_devices.specs.declared.step.KernelStep.TheVariants.{Packet, Ack, Fail, Unplug, Clock, Timer, Reap, Refuse}
use Rattle.usb_kernel_devices.specs.declared.step.KernelCall.TheVariants as call
use Rattle.usb_script_lines.specs.LineForms.{reading_of}
use Rattle.usb_script.specs.Parse.{script_of}
use Rattle.usb_script.proofs.OnLiterals.{script_on_literals}

empty_script : script_of [] ≡ Ok []
unfolding script_on_literals
empty_script = refl

one_word_missing : script_of (codes "open d0 1") ≡ Err (Malformed 1)
unfolding script_on_literals
one_word_missing = refl

-- spaces round the words, and no LF at the end
two_lines : script_of (codes "  submitin  e1 065 " ++ 10 ∷ codes "poll e63") ≡ Ok (SubmitIn 1 65 ∷ Poll 63 ∷ [])
unfolding script_on_literals
two_lines = refl

name_64 : reading_of (codes "poll e64") ≡ None
unfolding script_on_literals
name_64 = refl

name_with_leading_zero : reading_of (codes "poll e00") ≡ None
unfolding script_on_literals
name_with_leading_zero = refl

tab_is_no_space : reading_of (codes "poll" ++ 9 ∷ codes "e0") ≡ None
unfolding script_on_literals
tab_is_no_space = refl

-- steps joined by a semicolon
packet_and_reap : reading_of (codes "! pkt k0 81 0aF0 ; reap 1") ≡ Some (Read (Steps (Packet 0 129 (10 ∷ 240 ∷ []) ∷ Reap (Some 1) ∷ [])))
unfolding script_on_literals
packet_and_reap = refl

semicolon_at_the_end : reading_of (codes "! reap 1 ;") ≡ None
unfolding script_on_literals
semicolon_at_the_end = refl

no_step : reading_of (codes "!") ≡ None
unfolding script_on_literals
no_step = refl

setup_line_after_a_call : script_of (codes "poll e0" ++ 10 ∷ codes "device k0 1 1 3 1 -" ++ 10 ∷ []) ≡ Err (Malformed 2)
unfolding script_on_literals
setup_line_after_a_call = refl

comment : reading_of (codes "  #" ++ 255 ∷ 0 ∷ 13 ∷ 13 ∷ []) ≡ Some Skipped
unfolding script_on_literals
comment = refl

cr_alone : reading_of (13 ∷ []) ≡ Some Skipped
unfolding script_on_literals
cr_alone = refl

two_crs : reading_of (codes "poll e0" ++ 13 ∷ 13 ∷ []) ≡ None
unfolding script_on_literals
two_crs = refl

-- the comment and the empty line are counted
third_line : script_of (codes "# one" ++ 10 ∷ 10 ∷ codes "poll e64") ≡ Err (Malformed 3)
unfolding script_on_literals
third_line = refl

acknowledgement_and_failure : reading_of (codes "! ack k0 02 ; fail k1 81 032") ≡ Some (Read (Steps (Ack 0 2 ∷ Fail 1 129 32 ∷ [])))
unfolding script_on_literals
acknowledgement_and_failure = refl

errno_0 : reading_of (codes "! fail k0 81 0") ≡ None
unfolding script_on_literals
errno_0 = refl

unplug_and_clock : reading_of (codes "! unplug k63 ; clock 1000000000000000000") ≡ Some (Read (Steps (Unplug 63 ∷ Clock 1000000000000000000 ∷ [])))
unfolding script_on_literals
unplug_and_clock = refl

clock_has_no_max : reading_of (codes "! clock max") ≡ None
unfolding script_on_literals
clock_has_no_max = refl

turn_of_the_timer : reading_of (codes "! clock 5 ; timer") ≡ Some (Read (Steps (Clock 5 ∷ Timer ∷ [])))
unfolding script_on_literals
turn_of_the_timer = refl

timer_of_a_device : reading_of (codes "! timer k0") ≡ None
unfolding script_on_literals
timer_of_a_device = refl

reap_alone : reading_of (codes "! reap ; reap 1") ≡ Some (Read (Steps (Reap None ∷ Reap (Some 1) ∷ [])))
unfolding script_on_literals
reap_alone = refl

refusals_of_all_kinds :
    reading_of (codes "! refuse k0 open 1 ; refuse k1 readdesc 2 ; refuse k2 getconfig 3 ; refuse k3 setconfig 4 ; refuse k4 reset 5 ; refuse k5 claim 6 ; refuse k6 detachclaim 7 ; refuse k7 detach 8 ; refuse k8 attach 9 ; refuse k9 alt 10 ; refuse k10 halt 11 ; refuse k11 speed 12 ; refuse k12 submit 13")
    ≡ Some (Read (Steps (
    Refuse 0 call.OpenDevice 1
    ∷ Refuse 1 call.ReadDesc 2
    ∷ Refuse 2 call.GetConfig 3
    ∷ Refuse 3 call.SetConfig 4
    ∷ Refuse 4 call.Reset 5
    ∷ Refuse 5 call.Claim 6
    ∷ Refuse 6 call.DetachClaim 7
    ∷ Refuse 7 call.Detach 8
    ∷ Refuse 8 call.Attach 9
    ∷ Refuse 9 call.Alt 10
    ∷ Refuse 10 call.Halt 11
    ∷ Refuse 11 call.Speed 12
    ∷ Refuse 12 call.Submit 13
    ∷ []
    )))
unfolding script_on_literals
refusals_of_all_kinds = refl

refusal_of_no_call : reading_of (codes "! refuse k0 close 5") ≡ None
unfolding script_on_literals
refusal_of_no_call = refl

wait_without_end : reading_of (codes "wait e0 max : reap") ≡ Some (Read (Wait 0 18446744073709551615 (Reap None ∷ [])))
unfolding script_on_literals
wait_without_end = refl

transfer_in_without_steps : reading_of (codes "xferin e1 65536 1000000000000000000") ≡ Some (Read (TransferIn 1 65536 1000000000000000000 []))
unfolding script_on_literals
transfer_in_without_steps = refl

transfer_out_with_steps : reading_of (codes "xferout e0 0102 5 : ack k0 02 ; reap") ≡ Some (Read (TransferOut 0 (1 ∷ 2 ∷ []) 5 (Ack 0 2 ∷ Reap None ∷ [])))
unfolding script_on_literals
transfer_out_with_steps = refl

colon_without_steps : reading_of (codes "wait e0 5 :") ≡ None
unfolding script_on_literals
colon_without_steps = refl

steps_of_a_call_that_does_not_wait : reading_of (codes "poll e0 : reap") ≡ None
unfolding script_on_literals
steps_of_a_call_that_does_not_wait = refl

one_nanosecond_too_much : reading_of (codes "wait e0 1000000000000000001") ≡ None
unfolding script_on_literals
one_nanosecond_too_much = refl

-- the letter of the first name says what is closed
close_of_each :
    script_of (codes "close d63" ++ 10 ∷ codes "close i0" ++ 10 ∷ codes "close e5") ≡ Ok (CloseDevice 63 ∷ CloseInterface 0 ∷ CloseEndpoint 5 ∷ [])
unfolding script_on_literals
close_of_each = refl

close_of_a_simulated_device : reading_of (codes "close k0") ≡ None
unfolding script_on_literals
close_of_a_simulated_device = refl

clone_of_two_letters : reading_of (codes "clone d0 i0") ≡ None
unfolding script_on_literals
clone_of_two_letters = refl

clone_of_an_endpoint : reading_of (codes "clone e0 e1") ≡ None
unfolding script_on_literals
clone_of_an_endpoint = refl

-- a driver may stand before its device
drivers : script_of (codes "driver k0 255" ++ 10 ∷ codes "device k0 1 1 3 1 -" ++ 10 ∷ codes "driver k0 255") ≡ Ok (Driver 0 255 ∷ Device 0 1 1 3 1 [] ∷ Driver 0 255 ∷ [])
unfolding script_on_literals
drivers = refl

driver_of_interface_256 : reading_of (codes "driver k0 256") ≡ None
unfolding script_on_literals
driver_of_interface_256 = refl

driver_after_a_call : script_of (codes "device k0 1 1 3 1 -" ++ 10 ∷ codes "now" ++ 10 ∷ codes "driver k0 0") ≡ Err (Malformed 3)
unfolding script_on_literals
driver_after_a_call = refl

driver_after_a_step : script_of (codes "! timer" ++ 10 ∷ codes "driver k0 0") ≡ Err (Malformed 2)
unfolding script_on_literals
driver_after_a_step = refl

-- each line with its fields
each_line :
    script_of (
    codes "device k1 2 3 4 5 0aFf" ++ 10 ∷ []
    ++ codes "driver k6 7" ++ 10 ∷ []
    ++ codes "open d6 7 8" ++ 10 ∷ []
    ++ codes "devdesc d8" ++ 10 ∷ []
    ++ codes "descriptors d9" ++ 10 ∷ []
    ++ codes "claim d9 10 i11" ++ 10 ∷ []
    ++ codes "endpoint e12 i13 8e bulk-in" ++ 10 ∷ []
    ++ codes "submitin e15 16" ++ 10 ∷ []
    ++ codes "poll e17" ++ 10 ∷ []
    ++ codes "! pkt k18 93 14 ; reap 15" ++ 10 ∷ []
    ++ codes "now" ++ 10 ∷ []
    ++ codes "submitout e18 19" ++ 10 ∷ []
    ++ codes "pending e20" ++ 10 ∷ []
    ++ codes "wait e21 22 : reap" ++ 10 ∷ []
    ++ codes "xferin e23 24 25 : unplug k26 ; clock 27" ++ 10 ∷ []
    ++ codes "xferout e28 29 max" ++ 10 ∷ []
    ++ codes "cancel e30" ++ 10 ∷ []
    ++ codes "close e31" ++ 10 ∷ []
    ++ codes "clone d32 d33" ++ 10 ∷ []
    ++ codes "close d34" ++ 10 ∷ []
    ++ codes "active d35" ++ 10 ∷ []
    ++ codes "speed d36" ++ 10 ∷ []
    ++ codes "setconfig d37 38" ++ 10 ∷ []
    ++ codes "reset d39" ++ 10 ∷ []
    ++ codes "detach d40 41" ++ 10 ∷ []
    ++ codes "attach d42 43" ++ 10 ∷ []
    ++ codes "detachclaim d44 45 i46" ++ 10 ∷ []
    ++ codes "clone i47 i48" ++ 10 ∷ []
    ++ codes "close i49" ++ 10 ∷ []
    ++ codes "alt i50 51" ++ 10 ∷ []
    ++ codes "getalt i52" ++ 10 ∷ []
    ++ codes "ifdesc i53" ++ 10 ∷ []
    ++ codes "release i54" ++ 10 ∷ []
    ++ codes "halt e55" ++ 10 ∷ []
    ++ codes "dsubmitin e56 57 58" ++ 10 ∷ []
    ++ codes "dsubmitout e59 60 max" ++ 10 ∷ []
    )
    ≡ Ok (
    Device 1 2 3 4 5 (10 ∷ 255 ∷ [])
    ∷ Driver 6 7
    ∷ Open 6 7 8
    ∷ DeviceDescriptor 8
    ∷ Descriptors 9
    ∷ Claim 9 10 11
    ∷ Endpoint 12 13 142 BulkIn
    ∷ SubmitIn 15 16
    ∷ Poll 17
    ∷ Steps (Packet 18 147 (20 ∷ []) ∷ Reap (Some 15) ∷ [])
    ∷ Now
    ∷ SubmitOut 18 (25 ∷ [])
    ∷ Pending 20
    ∷ Wait 21 22 (Reap None ∷ [])
    ∷ TransferIn 23 24 25 (Unplug 26 ∷ Clock 27 ∷ [])
    ∷ TransferOut 28 (41 ∷ []) 18446744073709551615 []
    ∷ Cancel 30
    ∷ CloseEndpoint 31
    ∷ CloneDevice 32 33
    ∷ CloseDevice 34
    ∷ ActiveConfiguration 35
    ∷ Speed 36
    ∷ SetConfiguration 37 38
    ∷ Reset 39
    ∷ DetachDriver 40 41
    ∷ AttachDriver 42 43
    ∷ DetachAndClaim 44 45 46
    ∷ CloneInterface 47 48
    ∷ CloseInterface 49
    ∷ SetAltSetting 50 51
    ∷ GetAltSetting 52
    ∷ InterfaceDescriptor 53
    ∷ Release 54
    ∷ ClearHalt 55
    ∷ SubmitInWithDeadline 56 57 58
    ∷ SubmitOutWithDeadline 59 (96 ∷ []) 18446744073709551615
    ∷ []
    )
unfolding script_on_literals
each_line = refl

-- each line of control transfers with its fields
each_control_line :
    script_of (
    codes "ctlin d1 standard device 02 0304 0506 7 8 : reap" ++ 10 ∷ []
    ++ codes "ctlout i9 class interface 0a 0b0c 0d0E 0f10 11 : ack k12 00 ; reap" ++ 10 ∷ []
    ++ codes "fin f13 d14 vendor endpoint 15 1617 1819 65535 max" ++ 10 ∷ []
    ++ codes "fout f20 i21 standard other 16 1718 191a - 22" ++ 10 ∷ []
    ++ codes "fpoll f23" ++ 10 ∷ []
    ++ codes "fwait f24 : timer" ++ 10 ∷ []
    ++ codes "getdesc d25 26 27 0028 29 : reap" ++ 10 ∷ []
    ++ codes "langs d30 31 : reap" ++ 10 ∷ []
    ++ codes "string d32 33 0034 35 : reap" ++ 10 ∷ []
    ++ codes "close f36" ++ 10 ∷ []
    )
    ≡ Ok (
    ControlIn (target.Device 1) (record { control_type = Standard; recipient = recipient.Device; request = 2; value = 772; index = 1286 }) 7 8 (Reap None ∷ [])
    ∷ ControlOut (target.Interface 9) (record { control_type = Class; recipient = recipient.Interface; request = 10; value = 2828; index = 3342 }) (15 ∷ 16 ∷ []) 11 (Ack 12 0 ∷ Reap None ∷ [])
    ∷ StartControlIn 13 (target.Device 14) (record { control_type = Vendor; recipient = recipient.Endpoint; request = 21; value = 5655; index = 6169 }) 65535 18446744073709551615
    ∷ StartControlOut 20 (target.Interface 21) (record { control_type = Standard; recipient = recipient.Other; request = 22; value = 5912; index = 6426 }) [] 22
    ∷ PollFuture 23
    ∷ WaitFuture 24 (Timer ∷ [])
    ∷ GetDescriptor 25 26 27 40 29 (Reap None ∷ [])
    ∷ SupportedLanguages 30 31 (Reap None ∷ [])
    ∷ StringDescriptor 32 33 52 35 (Reap None ∷ [])
    ∷ CloseFuture 36
    ∷ []
    )
unfolding script_on_literals
each_control_line = refl

control_transfer_of_65536_bytes : reading_of (codes "ctlin d0 vendor device 30 0000 0000 65536 1000") ≡ None
unfolding script_on_literals
control_transfer_of_65536_bytes = refl

string_of_index_0 : reading_of (codes "string d0 0 0409 1000") ≡ None
unfolding script_on_literals
string_of_index_0 = refl

control_transfer_of_an_endpoint : reading_of (codes "ctlin e0 vendor device 30 0000 0000 64 1000") ≡ None
unfolding script_on_literals
control_transfer_of_an_endpoint = refl

start_with_steps : reading_of (codes "fin f0 d0 vendor device 30 0000 0000 64 1000 : reap") ≡ None
unfolding script_on_literals
start_with_steps = refl

-- each line of readers with its fields
each_reader_line :
    script_of (
    codes "reader r1 e2 3" ++ 10 ∷ []
    ++ codes "inner e4 r5" ++ 10 ∷ []
    ++ codes "num r6 65536" ++ 10 ∷ []
    ++ codes "timeout r7 8" ++ 10 ∷ []
    ++ codes "cancel r9" ++ 10 ∷ []
    ++ codes "close r10" ++ 10 ∷ []
    ++ codes "read r11 12 : reap" ++ 10 ∷ []
    ++ codes "sread r13 65536 : timer" ++ 10 ∷ []
    ++ codes "pollread r14 15" ++ 10 ∷ []
    ++ codes "pollsread r16 17" ++ 10 ∷ []
    ++ codes "fill r18 : reap ; timer" ++ 10 ∷ []
    ++ codes "sfill r19 : reap 20" ++ 10 ∷ []
    ++ codes "pollfill r21" ++ 10 ∷ []
    ++ codes "pollsfill r22" ++ 10 ∷ []
    ++ codes "consume r23 0" ++ 10 ∷ []
    ++ codes "sconsume r24 25" ++ 10 ∷ []
    ++ codes "isend r26" ++ 10 ∷ []
    ++ codes "endmsg r27" ++ 10 ∷ []
    ++ codes "halt r28" ++ 10 ∷ []
    )
    ≡ Ok (
    Reader 1 2 3
    ∷ IntoInner 4 5
    ∷ SetNumTransfers 6 65536
    ∷ SetReadTimeout 7 8
    ∷ CancelReader 9
    ∷ CloseReader 10
    ∷ item.Read Plain 11 12 (Reap None ∷ [])
    ∷ item.Read UntilShort 13 65536 (Timer ∷ [])
    ∷ PollRead Plain 14 15
    ∷ PollRead UntilShort 16 17
    ∷ FillBuf Plain 18 (Reap None ∷ Timer ∷ [])
    ∷ FillBuf UntilShort 19 (Reap (Some 20) ∷ [])
    ∷ PollFillBuf Plain 21
    ∷ PollFillBuf UntilShort 22
    ∷ Consume Plain 23 0
    ∷ Consume UntilShort 24 25
    ∷ IsEnd 26
    ∷ ConsumeEnd 27
    ∷ ClearReaderHalt 28
    ∷ []
    )
unfolding script_on_literals
each_reader_line = refl

submission_without_its_time : reading_of (codes "dsubmitin e0 64") ≡ None
unfolding script_on_literals
submission_without_its_time = refl

submission_with_steps : reading_of (codes "dsubmitout e0 00 5 : reap") ≡ None
unfolding script_on_literals
submission_with_steps = refl

halt_of_a_writer : reading_of (codes "halt w0") ≡ None
unfolding script_on_literals
halt_of_a_writer = refl

read_of_no_bytes : reading_of (codes "read r0 0") ≡ None
unfolding script_on_literals
read_of_no_bytes = refl

read_of_65537_bytes : reading_of (codes "read r0 65537") ≡ None
unfolding script_on_literals
read_of_65537_bytes = refl

poll_with_steps : reading_of (codes "pollread r0 5 : reap") ≡ None
unfolding script_on_literals
poll_with_steps = refl

-- each line of writers with its fields
each_writer_line :
    script_of (
    codes "writer w1 e2 3" ++ 10 ∷ []
    ++ codes "inner e4 w5" ++ 10 ∷ []
    ++ codes "num w6 65536" ++ 10 ∷ []
    ++ codes "timeout w7 8" ++ 10 ∷ []
    ++ codes "close w9" ++ 10 ∷ []
    ++ codes "write w10 0b0C" ++ 10 ∷ []
    ++ codes "write w13 - : reap ; timer" ++ 10 ∷ []
    ++ codes "pollwrite w14 0F" ++ 10 ∷ []
    ++ codes "wsubmit w16" ++ 10 ∷ []
    ++ codes "wend w17" ++ 10 ∷ []
    ++ codes "flush w18 : reap 19" ++ 10 ∷ []
    ++ codes "pollflush w20" ++ 10 ∷ []
    ++ codes "flushend w21 : timer ; reap" ++ 10 ∷ []
    ++ codes "pollflushend w22" ++ 10 ∷ []
    )
    ≡ Ok (
    Writer 1 2 3
    ∷ WriterIntoInner 4 5
    ∷ SetWriterTransfers 6 65536
    ∷ SetWriteTimeout 7 8
    ∷ CloseWriter 9
    ∷ Write 10 (11 ∷ 12 ∷ []) []
    ∷ Write 13 [] (Reap None ∷ Timer ∷ [])
    ∷ PollWrite 14 (15 ∷ [])
    ∷ Submit 16
    ∷ SubmitEnd 17
    ∷ Flush 18 (Reap (Some 19) ∷ [])
    ∷ PollFlush 20
    ∷ FlushEnd 21 (Timer ∷ Reap None ∷ [])
    ∷ PollFlushEnd 22
    ∷ []
    )
unfolding script_on_literals
each_writer_line = refl

transfers_up_to_65537 : reading_of (codes "num w0 65537") ≡ None
unfolding script_on_literals
transfers_up_to_65537 = refl

write_of_half_a_byte : reading_of (codes "write w0 0") ≡ None
unfolding script_on_literals
write_of_half_a_byte = refl

end_without_a_writer : reading_of (codes "wend") ≡ None
unfolding script_on_literals
end_without_a_writer = refl

end_with_steps : reading_of (codes "wend w0 : reap") ≡ None
unfolding script_on_literals
end_with_steps = refl

close_of_w64 : reading_of (codes "close w64") ≡ None
unfolding script_on_literals
close_of_w64 = refl

flush_with_a_word : reading_of (codes "flush w0 x") ≡ None
unfolding script_on_literals
flush_with_a_word = refl

-- each step with its fields
each_step : reading_of (codes "! pkt k18 93 1415 ; ack k16 17 ; fail k19 20 21 ; unplug k22 ; clock 23 ; timer ; reap 24 ; reap ; refuse k25 submit 26")
    ≡ Some (Read (Steps (
    Packet 18 147 (20 ∷ 21 ∷ [])
    ∷ Ack 16 23
    ∷ Fail 19 32 21
    ∷ Unplug 22
    ∷ Clock 23
    ∷ Timer
    ∷ Reap (Some 24)
    ∷ Reap None
    ∷ Refuse 25 call.Submit 26
    ∷ []
    )))
unfolding script_on_literals
each_step = refl

-- each kind of endpoint
each_kind :
    script_of (
    codes "endpoint e0 i1 02 bulk-out" ++ 10 ∷ []
    ++ codes "endpoint e1 i2 83 bulk-in" ++ 10 ∷ []
    ++ codes "endpoint e2 i3 04 int-out" ++ 10 ∷ []
    ++ codes "endpoint e3 i4 85 int-in"
    )
    ≡ Ok (Endpoint 0 1 2 BulkOut ∷ Endpoint 1 2 131 BulkIn ∷ Endpoint 2 3 4 InterruptOut ∷ Endpoint 3 4 133 InterruptIn ∷ [])
unfolding script_on_literals
each_kind = refl
