-- The journals of scripts are bounded.
use Rattle.std.proofs.Common.{◌++◌}
use Rattle.usb_session.specs.Output.{start, final_host}
use Rattle.usb_session_sizes.specs.Scripts.{JournalsAreBounded}
use Rattle.usb_session_sizes.proofs.Items.{items-sized, sized-front}
use Rattle.usb_session_sizes.proofs.Lines.{behind-bounded, last-bounded}
use Rattle.usb_session_sizes.proofs.States.{start-bounded}

pub journals_are_bounded : JournalsAreBounded
unfolding final_host
journals_are_bounded =
    record {
      line = λ bytes before after is. (behind-bounded (start (before ++ after)) before (sized-front before after (items-sized bytes (before ++ after) is)) (start-bounded (before ++ after))).0.0;
      end = λ bytes items is. (last-bounded (start items) items (items-sized bytes items is) (start-bounded items)).0;
    }
