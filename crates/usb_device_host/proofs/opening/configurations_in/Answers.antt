use Rattle.std.proofs.Common.{◌∙◌, ap, sym, arith}
use Rattle.std.proofs.lemmas.List.{drop_all}
use Rattle.usb_desc.specs.Configurations.{configurations, concatenated}
use Rattle.usb_device_host.proofs.opening.configurations_in.Goals as goal

pub returns-then-bytes-lt18 : goal.returns-then-bytes-lt18
unfolding configurations
returns-then-bytes-lt18 c = record { configurations = c.concatenated.ensures.items ∙ ap concatenated (sym (drop_all 18 c.args.bytes.now (omega arith))) }

pub returns : goal.returns
unfolding configurations
returns c = record { configurations = c.concatenated-2.ensures.items ∙ ap concatenated c.split_at.ensures.back }
