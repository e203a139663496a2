-- The lines of a script: each first word, and what the words behind it spell. The table has docs/SCRIPT.md's rows, and a
-- field is called as there. Behind a line `.._with_steps` may stand `:` and steps.
use Rattle.std.specs.Prelude.{List, [], ◌∷◌, codes, Option, Some}
use Rattle.usb_script_lines.specs.declared.item.Item.{Item}
use Rattle.usb_script_lines.specs.declared.item.Item.TheVariants as item
use Rattle.usb_script_words.specs.declared.framing.Framing.TheVariants.{Plain, UntilShort}
use Rattle.usb_script_words.specs.Words.{◌>>=◌, number_of}
use Rattle.usb_script_words.specs.Controls.{control_bytes_of, string_index_of}
use Rattle.usb_script_words.specs.Fields.{Word, none, one, two, three, four, six}
use Rattle.usb_script_words.specs.FieldForms.{k, d, i, e, r, w, m, f, N, B, R, T, HH, HHHH, TIME, ERRNO, BYTES, PATH, NAME, TEXT, VALUE, KIND, SEL}
use Rattle.usb_script_words.specs.Tables.{◌or◌, Table, read_by}
use Rattle.usb_script_words.specs.KernelSteps.{steps_of}
use Rattle.usb_script_lines.specs.Shapes.{one_and_rest, one_with_steps, two_with_steps, three_with_steps, four_with_steps, five_with_steps, control_with_steps, started_control}

-- the steps of a line of steps
abbrev pub steps_line : List Word → Option Item
steps_line words = steps_of words >>= λ steps. Some (item.Steps steps)

-- each first word, and the form of its line
unfoldable pub forms : Table Item
forms =
    -- lines of steps
    (codes "!", steps_line)
    -- what is there before the first call
    ∷ (codes "device", six item.Device k B B B B BYTES)
    ∷ (codes "driver", two item.Driver k B)
    ∷ (codes "attr", three item.Attribute PATH NAME VALUE)
    ∷ (codes "deny", three item.Denied PATH NAME ERRNO)
    ∷ (codes "child", two item.Child PATH NAME)
    ∷ (codes "link", three item.Link PATH NAME TEXT)
    ∷ (codes "entry", two item.Entry NAME PATH)
    ∷ (codes "root", one item.Root ERRNO)
    ∷ (codes "uevent", two item.Uevent T VALUE)
    -- devices
    ∷ (codes "open", three item.Open d B B)
    ∷ (codes "devdesc", one item.DeviceDescriptor d)
    ∷ (codes "descriptors", one item.Descriptors d)
    ∷ (codes "active", one item.ActiveConfiguration d)
    ∷ (codes "speed", one item.Speed d)
    ∷ (codes "setconfig", two item.SetConfiguration d B)
    ∷ (codes "reset", one item.Reset d)
    ∷ (codes "claim", three item.Claim d B i)
    ∷ (codes "detachclaim", three item.DetachAndClaim d B i)
    ∷ (codes "detach", two item.DetachDriver d B)
    ∷ (codes "attach", two item.AttachDriver d B)
    -- interfaces
    ∷ (codes "alt", two item.SetAltSetting i B)
    ∷ (codes "getalt", one item.GetAltSetting i)
    ∷ (codes "ifdesc", one item.InterfaceDescriptor i)
    ∷ (codes "release", one item.Release i)
    -- further names, and closes
    ∷ (codes "clone", two item.CloneDevice d d or two item.CloneInterface i i)
    ∷ (codes "close", one item.CloseDevice d or one item.CloseInterface i or one item.CloseEndpoint e or one item.CloseReader r or one item.CloseWriter w or one item.CloseClient m or one item.CloseFuture f)
    -- endpoints
    ∷ (codes "endpoint", four item.Endpoint e i HH KIND)
    ∷ (codes "submitin", two item.SubmitIn e N)
    ∷ (codes "submitout", two item.SubmitOut e BYTES)
    ∷ (codes "dsubmitin", three item.SubmitInWithDeadline e N TIME)
    ∷ (codes "dsubmitout", three item.SubmitOutWithDeadline e BYTES TIME)
    ∷ (codes "pending", one item.Pending e)
    ∷ (codes "poll", one item.Poll e)
    ∷ (codes "wait", two_with_steps item.Wait e TIME)
    ∷ (codes "xferin", three_with_steps item.TransferIn e N TIME)
    ∷ (codes "xferout", three_with_steps item.TransferOut e BYTES TIME)
    ∷ (codes "cancel", one item.Cancel e or one item.CancelReader r)
    ∷ (codes "halt", one item.ClearHalt e or one item.ClearReaderHalt r)
    -- readers, and what writers have too
    ∷ (codes "reader", three item.Reader r e N)
    ∷ (codes "inner", two item.IntoInner e r or two item.WriterIntoInner e w)
    ∷ (codes "num", two item.SetNumTransfers r N or two item.SetWriterTransfers w N)
    ∷ (codes "timeout", two item.SetReadTimeout r TIME or two item.SetWriteTimeout w TIME)
    ∷ (codes "read", two_with_steps (item.Read Plain) r R)
    ∷ (codes "pollread", two (item.PollRead Plain) r R)
    ∷ (codes "fill", one_with_steps (item.FillBuf Plain) r)
    ∷ (codes "pollfill", one (item.PollFillBuf Plain) r)
    ∷ (codes "consume", two (item.Consume Plain) r N)
    ∷ (codes "sread", two_with_steps (item.Read UntilShort) r R)
    ∷ (codes "pollsread", two (item.PollRead UntilShort) r R)
    ∷ (codes "sfill", one_with_steps (item.FillBuf UntilShort) r)
    ∷ (codes "pollsfill", one (item.PollFillBuf UntilShort) r)
    ∷ (codes "sconsume", two (item.Consume UntilShort) r N)
    ∷ (codes "isend", one item.IsEnd r)
    ∷ (codes "endmsg", one item.ConsumeEnd r)
    -- writers
    ∷ (codes "writer", three item.Writer w e N)
    ∷ (codes "write", two_with_steps item.Write w BYTES)
    ∷ (codes "pollwrite", two item.PollWrite w BYTES)
    ∷ (codes "wsubmit", one item.Submit w)
    ∷ (codes "wend", one item.SubmitEnd w)
    ∷ (codes "flush", one_with_steps item.Flush w)
    ∷ (codes "flushend", one_with_steps item.FlushEnd w)
    ∷ (codes "pollflush", one item.PollFlush w)
    ∷ (codes "pollflushend", one item.PollFlushEnd w)
    -- clients of messages
    ∷ (codes "msg", three item.Client m e e)
    ∷ (codes "mreq", two_with_steps item.Request m BYTES)
    ∷ (codes "mresp", one_with_steps item.Response m)
    ∷ (codes "mcount", one item.Outstanding m)
    -- control transfers, of at most 65535 bytes: X CTL stand before the bytes, or how many are wanted
    ∷ (codes "ctlin", control_with_steps item.ControlIn (number_of 65535) TIME)
    ∷ (codes "ctlout", control_with_steps item.ControlOut control_bytes_of TIME)
    ∷ (codes "fin", started_control item.StartControlIn f (number_of 65535) TIME)
    ∷ (codes "fout", started_control item.StartControlOut f control_bytes_of TIME)
    ∷ (codes "fpoll", one item.PollFuture f)
    ∷ (codes "fwait", one_with_steps item.WaitFuture f)
    ∷ (codes "getdesc", five_with_steps item.GetDescriptor d B B HHHH TIME)
    ∷ (codes "langs", two_with_steps item.SupportedLanguages d TIME)
    ∷ (codes "string", four_with_steps item.StringDescriptor d string_index_of HHHH TIME)
    -- the clock, the tree of attributes, and packets of udev
    ∷ (codes "now", none item.Now)
    ∷ (codes "list", none item.List)
    ∷ (codes "buses", none item.Buses)
    ∷ (codes "probe", one item.Probe PATH)
    ∷ (codes "match", one_and_rest item.Match PATH SEL)
    ∷ (codes "hotplug", none item.Hotplug)
    ∷ (codes "openpath", two item.OpenPath d PATH)
    ∷ []

-- the item of a line with this first word
unfoldable pub named_of : Word → List Word → Option Item
named_of name words = read_by forms name words
