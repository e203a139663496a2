-- What is sent to a keyboard.
use Rattle.std.specs.Prelude.{ℕ, [], ◌∷◌}
use Rattle.usb_desc.specs.declared.types.TransferType.TheVariants.{Control}
use Rattle.usb_desc.specs.Setup.{packet}
use Rattle.usb_xfer.specs.declared.transfer.TransferData.{TransferData}
use Rattle.usb_xfer.specs.declared.transfer.Held.TheVariants.{Request}

-- the class request SET_REPORT (9) to interface 0, of an output report (0x0200) of one byte
abbrev pub led_request : ℕ → TransferData
led_request leds =
    record {
      endpoint = 0;
      kind = Control;
      held = Request (packet 0x21 9 0x0200 0 1)
          (record { bytes = leds ∷ []; requested = 1; room = 1 });
    }
