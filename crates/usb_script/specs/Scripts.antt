-- The generated texts are scripts.
use Rattle.std.specs.Prelude.{◌≡◌, ℕ, ◌≤◌, List, Ok}
use Rattle.usb_script_lines.specs.declared.item.Item.{Item}
use Rattle.usb_script.specs.Parse.{script_of}
use Rattle.usb_script.specs.Generated.{generated}

-- these bytes are a script: short enough, and each line has its item
abbrev pub IsScript : List ℕ → Type 0
IsScript bytes = (items : List Item) × (script_of bytes ≡ Ok items)

-- every generated text of 1 to 2000 messages is a script
abbrev pub GeneratedScriptsParse : Type 0
GeneratedScriptsParse = (n : ℕ) → 1 ≤ n → n ≤ 2000 → IsScript (generated n)
