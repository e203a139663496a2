-- When a session is crowded: more than 1,024 tickets are unreaped. Then every call is barred.
use Rattle.std.specs.Prelude.{Bool, ◌&&◌, nat_lt}
use Rattle.usb_kernel.specs.Info.{unreaped}
use Rattle.usb_script_lines.specs.declared.item.Item.{Item}
use Rattle.usb_script_lines.specs.ItemKinds.{is_call}
use Rattle.usb_session_calls.specs.State.{State}

-- a session gets there within one call, which hands in a transfer for each one of no bytes that it takes
abbrev pub is_crowded : State → Bool
is_crowded state = nat_lt 1024 (unreaped state.host.kernel.past)

-- whether that bars a line: each that is a call
abbrev pub bars_line : State → Item → Bool
bars_line state item = is_call item && is_crowded state
