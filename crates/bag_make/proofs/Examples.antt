-- Examples of the definitions: they compute, and there is something that can be made.
use Rattle.std.proofs.Common.{◌≡◌, ℕ, ◌^◌, ◌<◌, List, [], ◌∷◌, ◌++◌, map, length, sum_by, is_some, refl, sym, ap, ◌∙◌}
use Rattle.std.proofs.Common.{subst, codes, arith}
use Rattle.std.specs.Prelude.{All}
use Rattle.std.specs.Char.{encode_utf8}
use Rattle.std.specs.Fmt.{digits}
use Rattle.std.specs.FinMap as fin
use Rattle.std.specs.FinMap.{get-empty, len-empty, len-entries}
use Rattle.std.specs.FinSet as set
use Rattle.std.specs.FinSet.{contains-empty}
use Rattle.std.specs.List.Sorted.{IsStrictlySortedBy}
use Rattle.std.specs.Str.{is_utf8, chars}
use Rattle.std.proofs.lemmas.Bool.{false≢true}
use Rattle.std.proofs.lemmas.List.{nil_from_length}
use Rattle.std.proofs.lemmas.List.Elements.{All-nil, All-cons}
use Rattle.hex.specs.Hex.{encode_with}
use Rattle.md5.specs.Md5.{md5, block_words, rounds, compress, hash_after, digest_bytes}
use Rattle.bag_text.specs.Path.{under}
use Rattle.bag_text.specs.Text.{text_cmp}
use Rattle.bag_text.specs.declared.alg.Alg.TheVariants.{Md5, Sha256}
use Rattle.bag_tree.specs.Bag.{Bag, IsBag, files_of}
use Rattle.bag_tags.specs.Element.{AreTexts, NewElement, info_text}
use Rattle.bag_make.specs.Made.{new_payload, new_elements, new_tag_files}
use Rattle.bag_tags.specs.Summed.{File, manifest}
use Rattle.bag_make.specs.Laws.{CanMake}

-- a folder of two files, of which one stands under data already
abbrev files : List File
files = (codes "data/x", codes "abc") ∷ (codes "y", []) ∷ []

abbrev info : List NewElement
info = (codes "Contact-Name", codes "Ann") ∷ []

payload_of_files : new_payload files ≡ (codes "data/data/x", codes "abc") ∷ (codes "data/y", []) ∷ []
payload_of_files = refl

names_of_tag_files : map (λ (e : File). e.0) (new_tag_files files (Md5 ∷ Sha256 ∷ []) info) ≡
    codes "bagit.txt" ∷ codes "bag-info.txt" ∷ codes "manifest-md5.txt" ∷ codes "manifest-sha256.txt"
    ∷ codes "tagmanifest-md5.txt" ∷ codes "tagmanifest-sha256.txt" ∷ []
names_of_tag_files = refl

info_of_files : info_text (new_elements files (Md5 ∷ []) info)
    ≡ codes "Contact-Name: Ann" ++ 10 ∷ codes "Payload-Oxum: 3.2" ++ 10 ∷ []
unfolding digits
info_of_files = refl

info_of_nothing : info_text (new_elements [] (Md5 ∷ []) []) ≡ codes "Payload-Oxum: 0.0" ++ 10 ∷ []
unfolding digits
info_of_nothing = refl

manifest_of_files : manifest Md5 (new_payload files) ≡
    codes "900150983cd24fb0d6963f7d28e17f72  data/data/x" ++ 10 ∷ codes "d41d8cd98f00b204e9800998ecf8427e  data/y"
    ++ 10 ∷ []
unfolding md5 block_words rounds compress hash_after digest_bytes encode_with
manifest_of_files = refl

manifest_of_nothing : manifest Md5 (new_payload []) ≡ []
manifest_of_nothing = refl

abbrev empty_bag : Bag
empty_bag = record { files = fin.empty; folders = set.empty }

empty_is_bag : IsBag empty_bag
empty_is_bag = record {
  paths = λ path has. absurd (false≢true (sym (ap is_some (get-empty text_cmp path)) ∙ has));
  names = λ name has. absurd (false≢true (sym (contains-empty text_cmp name) ∙ has));
  parents = λ top rest is has. absurd (false≢true (sym (ap is_some (get-empty text_cmp (under top rest))) ∙ has));
  bytes = λ path content has. absurd (false≢true (ap is_some (sym (get-empty text_cmp path) ∙ has)));
}

no_files : files_of empty_bag ≡ []
no_files = nil_from_length (files_of empty_bag) (sym (len-entries empty_bag.files) ∙ len-empty text_cmp (List ℕ))

info_texts : All AreTexts info
unfolding is_utf8 chars encode_utf8
info_texts = All-cons AreTexts (codes "Contact-Name", codes "Ann") [] (refl, refl) (All-nil AreTexts)

empty_can_be_made : CanMake empty_bag (Md5 ∷ []) info
unfolding IsStrictlySortedBy
empty_can_be_made = record {
  is_bag = empty_is_bag;
  asked = (λ none. cc, refl);
  ascending = (tt, tt);
  texts = info_texts;
  known = record {
    count = subst (λ (es : List File). length es < 2 ^ 64) (sym no_files) (omega arith);
    size = subst (λ (es : List File). sum_by (λ e. length e.1) es < 2 ^ 64) (sym no_files) (omega arith);
  };
}
