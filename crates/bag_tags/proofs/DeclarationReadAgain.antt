-- The declaration that is written is read again.
use Rattle.bag_tags.proofs.Common.{arith, unwrap_or, DeclarationIsReadAgain}
use Rattle.std.specs.Char.{encode_utf8}
use Rattle.std.specs.Str.{is_utf8, chars}

pub declaration_again : DeclarationIsReadAgain
unfolding is_utf8 chars encode_utf8
declaration_again = grind (arith, unwrap_or)
