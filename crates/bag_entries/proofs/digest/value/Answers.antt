use Rattle.bag_entries.proofs.HexDigits.{small_value, digit_of_value}
use Rattle.bag_entries.proofs.digest.value.Goals as goal

pub returns : goal.returns
returns c = record { small = small_value c.args.digit c.requires; digit = digit_of_value c.args.digit c.requires }
