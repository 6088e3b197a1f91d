-- The line of an entry that can be written, as it is read.
use Rattle.bag_tags.proofs.Common.{List, [], ap, append_assoc, arith, codes, false, inr, nat_lt, not, refl, sym, true}
use Rattle.bag_tags.proofs.Common.{ℕ, ◌&&◌, ◌++◌, ◌∙◌, ◌≡◌, ◌≢◌, true≢false, list_all, list_any, list_any-append}
use Rattle.bag_tags.proofs.Common.{IsUtf8-append, IsUtf8-from_is_utf8, not_false, not_true, or_false, both_true}
use Rattle.bag_tags.proofs.Common.{IsCutAtBlanks, ReadsManifest, Kind, Payload, Tag, is_line_end, is_path}
use Rattle.bag_tags.proofs.Common.{is_payload_path, IsText, has_mark, Alg, NewEntry, begins_with_mark, is_bad_digest}
use Rattle.bag_tags.proofs.Common.{is_lower_hex_digit, is_manifest_name, may_name}
use Rattle.bag_text.specs.declared.rules.Rules.{Rules}
use Rattle.bag_read.specs.ManifestLine.{IsSpelling, MayName, IsManifestLine}
use Rattle.bag_read.proofs.ManifestLineParts.{lines_read}
use Rattle.bag_read.proofs.ManifestName.{not_named}
use Rattle.bag_tags.specs.Entry.{entry_line_by}
use Rattle.bag_tags.specs.PathSpelling.{is_unspelled, spelled}
use Rattle.bag_tags.specs.Writable.{is_bad_entry_by, is_bad_path_by, is_unnameable}
use Rattle.bag_tags.proofs.EscapedPaths.{no_end_in, text_spelled, no_star, begins_unblank, no_dot_slash}
use Rattle.bag_tags.proofs.HexTexts.{all_hex, no_blank, hex_utf8, no_hex_end, low_hex, no_hex_mark, digest_length}
use Rattle.bag_tags.proofs.HexTexts.{digest_digits, digest_some}
use Rattle.bag_tags.proofs.SpelledPaths.{spelled_again}
use Rattle.bag_tags.proofs.WrittenLines.{IsWritten, few_utf8}

safe : (kind : Kind) (path : List ℕ) → may_name kind path ≡ true → is_path path ≡ true
safe Payload path e = grind (arith, both_true, nat_lt)
safe Tag path e = grind (arith, both_true)

place : (kind : Kind) (path : List ℕ) → may_name kind path ≡ true → MayName kind path
place Payload path e = e
place Tag path e =
    let (outside, other) = both_true (is_path path && not (is_payload_path path)) (not (is_manifest_name Tag path)) e in (
      not_true _ (both_true (is_path path) (not (is_payload_path path)) outside).1,
      not_named Tag path (not_true _ other),
    )

module _ (rules : Rules) (kind : Kind) (alg : Alg) (entry : NewEntry)
    (good : is_bad_entry_by rules kind alg entry ≡ false)
  where
    abbrev digest : List ℕ
    digest = entry.0

    abbrev path : List ℕ
    path = entry.1

    parts : (is_bad_digest alg digest ≡ false) × (is_bad_path_by rules kind path ≡ false)
    parts = or_false (is_bad_digest alg digest) (is_bad_path_by rules kind path) good

    path_parts : (not (may_name kind path) ≡ false) × (is_unnameable rules path ≡ false)
    path_parts = or_false (not (may_name kind path)) (is_unnameable rules path) parts.1

    name_parts : (is_unspelled rules path ≡ false) × (begins_with_mark path ≡ false)
    name_parts = or_false (is_unspelled rules path) (begins_with_mark path) path_parts.1

    may : may_name kind path ≡ true
    may = not_false _ path_parts.0

    is_safe_path : is_path path ≡ true
    is_safe_path = safe kind path may

    some_path : path ≢ []
    some_path same = true≢false (sym is_safe_path ∙ ap is_path same)

    digits : list_all is_lower_hex_digit digest ≡ true
    digits = digest_digits alg digest parts.0

    cut : IsCutAtBlanks (entry_line_by rules entry) digest (spelled rules path)
    cut = record {
      blanks = codes "  ";
      text_is = refl;
      some_part = digest_some alg digest parts.0;
      no_blank = no_blank digest digits;
      some_blank = λ e. cc;
      only_blanks = refl;
      begins = begins_unblank rules path name_parts.0 name_parts.1 some_path;
    }

    spelling : IsSpelling (spelled rules path) (spelled rules path)
    spelling = (
      spelled rules path,
      inr (refl, no_star rules path name_parts.0 name_parts.1),
      inr (refl, no_dot_slash rules path name_parts.0 is_safe_path),
    )

    reads_as : IsManifestLine rules kind alg (entry_line_by rules entry) digest path
    reads_as = record {
      hex = digest;
      rest = spelled rules path;
      spelling = spelled rules path;
      parts = cut;
      only_digits = all_hex digest digits;
      hex_length = digest_length alg digest parts.0;
      in_lower_case = low_hex digest digits;
      written = spelling;
      spelled = spelled_again rules path name_parts.0;
      is_safe = is_safe_path;
      may_name = place kind path may;
    }

    -- the line reads as the entry
    pub reads : ReadsManifest rules kind alg (entry_line_by rules entry) digest path
    reads = (lines_read rules kind alg (entry_line_by rules entry) digest path).1 reads_as

    no_line_end : list_any is_line_end (entry_line_by rules entry) ≡ false
    no_line_end = grind (arith, list_any-append, no_hex_end, digits, no_end_in)

    marked_nowhere : (rest : List ℕ) → has_mark (entry_line_by rules entry ++ rest) ≡ false
    marked_nowhere rest =
        ap has_mark (append_assoc (digest ++ codes "  ") (spelled rules path) rest
        ∙ append_assoc digest (codes "  ") (spelled rules path ++ rest))
        ∙ no_hex_mark digest (codes "  " ++ (spelled rules path ++ rest)) (digest_some alg digest parts.0) digits

    pub written : IsText path → IsWritten (entry_line_by rules) entry
    written text = (
      IsUtf8-append (digest ++ codes "  ") (spelled rules path)
          (IsUtf8-append digest (codes "  ") (hex_utf8 digest digits) few_utf8.2)
          (text_spelled rules path (IsUtf8-from_is_utf8 path text)),
      no_line_end,
      marked_nowhere,
    )
