-- What is true of all simulated disks.
use Rattle.std.specs.Prelude.{ℕ, ◌+◌, ◌≡◌, ◌≤◌, ◌<◌, ◌^◌, List, [], length}
use Rattle.usb_bot.specs.declared.wrapper.Command.{Command}
use Rattle.usb_bot.specs.Wrappers.{data_length}
use Rattle.usb_bot_disk.specs.declared.stage.Stage.{Stage}
use Rattle.usb_bot_disk.specs.declared.stage.Stage.TheVariants.{Listening, Taking, Sending, Refusing, Answering}
use Rattle.usb_bot_disk.specs.Machine.{end_of}

-- a command whose data are sent: no more is left than was asked for, what is sent is there, and the
-- count is one of a READ(10)
pub record IsSent (disk : List ℕ) (c : Command) (left : ℕ) : Type 0 where
  pub asked : left ≤ data_length c
  pub within : end_of c ≤ length disk
  pub count : c.count < 2 ^ 16

-- no more is left than was asked for
abbrev pub IsSound : List ℕ → Stage → Type 0
IsSound disk Listening = Unit {0}
IsSound disk (Taking c left) = left ≤ data_length c
IsSound disk (Sending c left) = IsSent disk c left
IsSound disk (Refusing c) = Unit {0}
IsSound disk (Answering s gone) = gone ≤ 13

-- what has come: of a wrapper fewer bytes than it has, and of the data of a write whose blocks are
-- there all but those that are left
abbrev pub HasCome : List ℕ → List ℕ → Stage → Type 0
HasCome disk got Listening = length got < 31
HasCome disk got (Taking c left) = end_of c ≤ length disk → length got + left ≡ data_length c
HasCome disk got (Sending c left) = got ≡ []
HasCome disk got (Refusing c) = got ≡ []
HasCome disk got (Answering s gone) = got ≡ []

-- memory for so many bytes is enough for a wrapper, and for the data of each write
pub record HasRoom (disk : List ℕ) (room : ℕ) : Type 0 where
  pub wrapper : 31 ≤ room
  pub blocks : length disk ≤ room
