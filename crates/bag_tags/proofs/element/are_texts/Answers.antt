use Rattle.std.proofs.lemmas.Str.{is_utf8-from_IsUtf8}
use Rattle.bag_tags.proofs.element.are_texts.Goals as goal

pub returns : goal.returns
returns c = (is_utf8-from_IsUtf8 _ c.utf8.label, is_utf8-from_IsUtf8 _ c.utf8.value)
