-- The folder that a path in UTF-8 stands in.
use Rattle.bag_memory.proofs.Common.{◌≡◌, ℕ, true, List, and_parts, and_from, IsUtf8-from_is_utf8, is_utf8-from_IsUtf8}
use Rattle.bag_memory.proofs.Common.{first_component, is_in_folder, is_text_path, is_text_name, arith}
use Rattle.bag_tree.proofs.Parents.{first_is_base_name, first_is_text}
pub use Rattle.bag_tree.proofs.Parents.{is_slash, under_in_folder, first-under, slash_within, in_folder, not_in_folder}

-- the first component of a path in a folder is a name
pub first_is_name : (path : List ℕ) → is_text_path path ≡ true → is_in_folder path ≡ true
    → is_text_name (first_component path) ≡ true
first_is_name path is within =
    grind (arith, and_parts, and_from, first_is_base_name, is_utf8-from_IsUtf8, first_is_text, IsUtf8-from_is_utf8)
