use Rattle.std.proofs.Common.{◌≡◌}
use Rattle.usb_bot.specs.Clients.{StandBoth}
use Rattle.usb_bot_disk.specs.DiskCalls.{disk_bus_of}
use Rattle.usb_bot_law.specs.Serving.{Serves}
use Rattle.usb_bot_rounds.specs.Rounds.{rounds_tally}
use Rattle.usb_bot_rounds.specs.Runs.{IsWithin}
use Rattle.usb_bot_rounds.proofs.TallyLemmas.{list_behind_rounds}
use Rattle.usb_bot_rounds.proofs.rounds.run_all.Given as goal

abbrev pub invariant-loop-number : goal.invariant-loop-number
invariant-loop-number l = record {
  serves : Serves l.bus l.client (list_behind_rounds l.number);
  stand : StandBoth (disk_bus_of l.bus) l.client;
  tally : l.tally ≡ rounds_tally l.number;
  within : IsWithin l.number l.tally;
}
