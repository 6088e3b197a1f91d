-- Elements that are read can be written again.
use Rattle.bag_tags.proofs.Common.{Bool, List, Some, None, [], ap, append_assoc, arith, bytes_eq, drop, false, inl, inr}
use Rattle.bag_tags.proofs.Common.{length, lit<, map, not, refl, subst, sym, take, true, ℕ, ◌++◌, ◌<◌, ◌∙◌, ◌∷◌, ◌≡◌, ◌≢◌}
use Rattle.bag_tags.proofs.Common.{AllByRecursion, list_any, or_false, is_line_end, line_feed, lines, lines_of_file}
use Rattle.bag_tags.proofs.Common.{trim, IsText, IsUtf8, V10, has_outer_blank, is_blank, nat_tests, recursion_from_All}
use Rattle.bag_text.specs.Laws.{Cut, IsEnd}
use Rattle.bag_text.specs.Lines.{carriage_return, lines_of_text}
use Rattle.bag_text.proofs.LineLaws.{IsPlain, only_cut}
use Rattle.bag_tags.proofs.CutTexts.{after_ascii, before_ascii}
use Rattle.bag_tags.proofs.TrimmedTexts.{stays_trimmed, trim_begins, trim_ends, trim_some}
use Rattle.std.proofs.lemmas.Bool.{or_from, ltb-false, ltb-true}
use Rattle.bag_tags.proofs.Common.{All-from_recursion, All-take, IsElement, IsLine, IsUtf8-append, IsUtf8-from_is_utf8, IsUtf8-nil}
use Rattle.bag_tags.proofs.Common.{after_first, before_first, begins_element, both_true, bytes_eq-Decides, continuations}
use Rattle.bag_tags.proofs.Common.{empty_test, ends_with_blank, get_or, has_mark, is_colon, is_label, is_utf8-from_IsUtf8}
use Rattle.bag_tags.proofs.Common.{list_any-append, nat_lt, not_empty, not_true, position_or_len, prefix_len, suc}
use Rattle.bag_tags.proofs.Common.{suffix_len, true≢false, value_of_parts, zero, ◌&&◌, ◌-◌, eqb-true}
use Rattle.std.proofs.Common.{cond, ◌||◌}
use Rattle.std.specs.Prelude.{All, filter, take_while, ◌==◌, nat_eq}
use Rattle.std.specs.List.{join_with_byte}
use Rattle.std.specs.Char.{encode_utf8}
use Rattle.std.specs.Str.{is_utf8}
use Rattle.std.proofs.lemmas.Slice.Eq.{starts_is}
use Rattle.std.proofs.lemmas.Bool.Decides.{Decides-eqb}
use Rattle.std.proofs.lemmas.List.{get_or-take, length-take, take_all}
use Rattle.std.proofs.lemmas.List.Folds.{list_any_none}
use Rattle.std.proofs.lemmas.List.Splits.{slice_split_at, slice_split_none}
use Rattle.std.proofs.lemmas.List.Sums.{fails_before_first, passes_at_first, prefix_len-le-length, split_at_first}
use Rattle.std.proofs.lemmas.Option.{cond_some}
use Rattle.std.proofs.lemmas.Str.{IsUtf8-drop, IsUtf8-past_char, IsUtf8-take}
use Rattle.bag_read.specs.Info.{is_continuation}
use Rattle.bag_read.specs.declared.info.Element.{Element}
use Rattle.bag_tags.proofs.WrittenLines.{at_place, behind, few_utf8}
use Rattle.bag_tags.specs.Element.{is_bad_label, is_bad_value}
use Rattle.bag_tags.specs.OnLines.{is_bad_long_element, is_bad_long_value, value_lines}
use Rattle.bag_tags.specs.ReadAgain.{ReadInfoCanBeWritten}
use Rattle.bag_text.proofs.Blanks.{leading_boundary, trailing_boundary}
use Rattle.bag_text.specs.Rules.{label_of, may_follow_colon}
use Rattle.bag_text.specs.Text.{begins_with_blank, is_blank_line, without_mark, byte_order_mark}
use Rattle.bag_text.specs.declared.rules.Rules.{Rules}
use Rattle.bag_text.specs.declared.rules.Rules.TheVariants.{V097}

-- ---- the lines of a text

abbrev IsGoodLine : List ℕ → Type 0
IsGoodLine line = IsUtf8 line × (list_any is_line_end line ≡ false)

no_ends : (line : List ℕ) → AllByRecursion IsPlain line → list_any is_line_end line ≡ false
no_ends [] plain = refl
no_ends (c ∷ line) plain = or_from (is_line_end c) (list_any is_line_end line) (grind (arith, nat_tests, plain.0.0, plain.0.1)) (no_ends line plain.1)

end_cut : (line end after : List ℕ) → IsEnd end after → IsUtf8 (line ++ end ++ after) → IsUtf8 line × IsUtf8 after
end_cut line end after (inl feed) text =
    let whole = subst IsUtf8 (ap (λ e. line ++ e ++ after) feed ∙ append_assoc line (line_feed ∷ []) after) text in
    (before_ascii line line_feed after (lit< tt) whole, after_ascii line line_feed after (lit< tt) whole)
end_cut line end after (inr (inl both_ends)) text =
    let whole =
    subst IsUtf8 (ap (λ e. line ++ e ++ after) both_ends ∙ append_assoc line (carriage_return ∷ line_feed ∷ []) after) text in (
      before_ascii line carriage_return (line_feed ∷ after) (lit< tt) whole,
      after_ascii [] line_feed after (lit< tt) (after_ascii line carriage_return (line_feed ∷ after) (lit< tt) whole),
    )
end_cut line end after (inr (inr alone)) text =
    let whole = subst IsUtf8 (ap (λ e. line ++ e ++ after) alone.0 ∙ append_assoc line (carriage_return ∷ []) after) text in
    (before_ascii line carriage_return after (lit< tt) whole, after_ascii line carriage_return after (lit< tt) whole)

good_cut : (all : List (List ℕ)) (t : List ℕ) → Cut t all → IsUtf8 t → AllByRecursion IsGoodLine all
good_cut [] t cut text = tt
good_cut (line ∷ rest) t (plain, inl (whole, some, none)) text = (
  (subst IsUtf8 whole text, no_ends line (recursion_from_All IsPlain line plain)),
  subst (AllByRecursion IsGoodLine) (sym none) tt,
)
good_cut (line ∷ rest) t (plain, inr (end, after, is, parts, more)) text =
    let two = end_cut line end after is (subst IsUtf8 parts text) in
    ((two.0, no_ends line (recursion_from_All IsPlain line plain)), good_cut rest after more two.1)

-- the lines of a text are texts without a line end
lines_good : (t : List ℕ) → IsUtf8 t → AllByRecursion IsGoodLine (lines t)
lines_good t text = good_cut (lines t) t ((only_cut t (lines t)).1 refl) text

-- ---- a text that was trimmed

trim_text : (t : List ℕ) → IsUtf8 t → IsUtf8 (trim t)
trim_text t text =
    let rest = IsUtf8-drop t (prefix_len is_blank t) text (leading_boundary t text) in
    let left = drop (prefix_len is_blank t) t in
    IsUtf8-take left (length left - suffix_len is_blank left) rest (trailing_boundary left)

module _ (p : ℕ → Bool) where
  none_taken : (n : ℕ) (t : List ℕ) → list_any p t ≡ false → list_any p (take n t) ≡ false
  none_taken zero t none = refl
  none_taken (suc n) [] none = refl
  none_taken (suc n) (c ∷ t) none =
      let two = or_false (p c) (list_any p t) none in
      or_from (p c) (list_any p (take n t)) two.0 (none_taken n t two.1)

  none_dropped : (n : ℕ) (t : List ℕ) → list_any p t ≡ false → list_any p (drop n t) ≡ false
  none_dropped zero t none = none
  none_dropped (suc n) [] none = refl
  none_dropped (suc n) (c ∷ t) none = none_dropped n t (or_false (p c) (list_any p t) none).1

  none_trimmed : (t : List ℕ) → list_any p t ≡ false → list_any p (trim t) ≡ false
  none_trimmed t none =
      let left = drop (prefix_len is_blank t) t in
      none_taken (length left - suffix_len is_blank left) left (none_dropped (prefix_len is_blank t) t none)

trim_twice : (t : List ℕ) → has_outer_blank (trim t) ≡ false
trim_twice t =
    let same = stays_trimmed (trim t) (trim_begins t) (trim_ends t) in
    ap not ((bytes_eq-Decides (trim (trim t)) (trim t)).1 same)

-- a line that was trimmed can be written as a line of a value
good_trimmed : (t : List ℕ) → IsGoodLine t → IsUtf8 (trim t) × (is_bad_value (trim t) ≡ false)
good_trimmed t good = (
  trim_text t good.0,
  or_from (list_any is_line_end (trim t)) (has_outer_blank (trim t)) (none_trimmed is_line_end t good.1) (trim_twice t),
)

-- ---- the lines of a value that was joined

abbrev IsGoodPart : List ℕ → Type 0
IsGoodPart part = IsUtf8 part × (is_bad_value part ≡ false)

no_feed : (part : List ℕ) → list_any is_line_end part ≡ false → AllByRecursion (λ c. (c == line_feed) ≡ false) part
no_feed [] none = tt
no_feed (c ∷ part) none =
    let two = or_false (is_line_end c) (list_any is_line_end part) none in
    ((or_false (c == line_feed) (c == carriage_return) two.0).0, no_feed part two.1)

no_feed_in : (part : List ℕ) → IsGoodPart part → All (λ c. (c == line_feed) ≡ false) part
no_feed_in part good =
    let two = or_false (list_any is_line_end part) (has_outer_blank part) good.1 in
    All-from_recursion (λ c. (c == line_feed) ≡ false) part (no_feed part two.0)

split_again : (part : List ℕ) (parts : List (List ℕ)) → AllByRecursion IsGoodPart (part ∷ parts)
    → value_lines (join_with_byte line_feed (part ∷ parts)) ≡ part ∷ parts
split_again part [] good = slice_split_none (λ c. c == line_feed) part (no_feed_in part good.0)
split_again part (next ∷ parts) good =
    slice_split_at (λ c. c == line_feed) part line_feed (join_with_byte line_feed (next ∷ parts)) (no_feed_in part good.0) refl
    ∙ ap (λ ls. part ∷ ls) (split_again next parts good.1)

text_joined : (parts : List (List ℕ)) → AllByRecursion IsGoodPart parts → IsUtf8 (join_with_byte line_feed parts)
text_joined [] good = IsUtf8-nil
text_joined (part ∷ []) good = good.0.0
text_joined (part ∷ next ∷ parts) good =
    IsUtf8-append part (line_feed ∷ join_with_byte line_feed (next ∷ parts)) good.0.0
    (IsUtf8-append (line_feed ∷ []) (join_with_byte line_feed (next ∷ parts)) few_utf8.0 (text_joined (next ∷ parts) good.1))

-- a line that goes on with an element
abbrev IsMore : List ℕ → Type 0
IsMore line = IsGoodLine line × (is_continuation line ≡ true)

parts_good : (more : List (List ℕ)) → AllByRecursion IsMore more → AllByRecursion IsGoodPart (map trim more)
parts_good [] good = tt
parts_good (line ∷ more) good = (good_trimmed line good.0.0, parts_good more good.1)

none_bad : (parts : List (List ℕ)) → AllByRecursion IsGoodPart parts → list_any is_bad_value parts ≡ false
none_bad [] good = refl
none_bad (part ∷ parts) good = or_from (is_bad_value part) (list_any is_bad_value parts) good.0.1 (none_bad parts good.1)

none_empty : (more : List (List ℕ)) → AllByRecursion IsMore more
    → list_any (λ line. bytes_eq line []) (map trim more) ≡ false
none_empty [] good = refl
none_empty (line ∷ more) good =
    let plain = (both_true (not (is_blank_line line)) (begins_with_blank line) good.0.1).0 in
    or_from (bytes_eq (trim line) []) (list_any (λ line. bytes_eq line []) (map trim more))
    (empty_test (trim line) (trim_some line (not_true _ plain))) (none_empty more good.1)

-- the value of a part and the lines that go on with it
value_good : (part : List ℕ) (more : List (List ℕ)) → IsGoodLine part → AllByRecursion IsMore more
    → IsUtf8 (value_of_parts (part ∷ more)) × (is_bad_long_value (value_of_parts (part ∷ more)) ≡ false)
value_good part more good rest =
    let parts : AllByRecursion IsGoodPart (trim part ∷ map trim more) = (good_trimmed part good, parts_good more rest) in
    let lines = split_again (trim part) (map trim more) parts in (
      text_joined (trim part ∷ map trim more) parts,
      or_from (list_any is_bad_value (value_lines (value_of_parts (part ∷ more)))) _
          (ap (list_any is_bad_value) lines ∙ none_bad (trim part ∷ map trim more) parts)
          (ap (λ ls. list_any (λ line. bytes_eq line []) (drop 1 ls)) lines ∙ none_empty more rest),
    )

-- ---- the lines that go on with an element

module _ {A : Type 0} (P : A → Type 0) (q : A → Bool) where
  kept_by : (b : Bool) (x : A) (xs : List A) → q x ≡ b → P x → AllByRecursion (λ y. P y × (q y ≡ true)) xs
      → AllByRecursion (λ y. P y × (q y ≡ true)) (cond b (x ∷ xs) xs)
  kept_by true x xs is holds more = ((holds, is), more)
  kept_by false x xs is holds more = more

  kept_each : (xs : List A) → AllByRecursion P xs → AllByRecursion (λ y. P y × (q y ≡ true)) (filter q xs)
  kept_each [] all = tt
  kept_each (x ∷ xs) all = kept_by (q x) x (filter q xs) refl all.0 (kept_each xs all.1)

taken : {A : Type 0} (P : A → Type 0) (k : ℕ) (xs : List A) → AllByRecursion P xs → AllByRecursion P (take k xs)
taken P k xs all = recursion_from_All P (take k xs) (All-take P k xs (All-from_recursion P xs all))

more_lines : (all : List (List ℕ)) (k : ℕ) → AllByRecursion IsGoodLine all → AllByRecursion IsMore (continuations all k)
more_lines all k good =
    kept_each IsGoodLine is_continuation (take_while (λ line. not (begins_element line)) (drop k all))
    (taken IsGoodLine (prefix_len (λ line. not (begins_element line)) (drop k all)) (drop k all)
    (behind IsGoodLine k all good))

-- ---- the first line of an element

module _ (line : List ℕ) (good : IsGoodLine line) (some : list_any is_colon line ≡ true) where
  abbrev before : List ℕ
  before = before_first is_colon line

  abbrev after : List ℕ
  after = after_first is_colon line

  abbrev place : ℕ
  place = position_or_len is_colon line

  none_before : list_any is_colon before ≡ false
  none_before =
      list_any_none is_colon before (λ k d low.
      let short = length-take place line in
      ap is_colon (get_or-take place line k d (omega arith)) ∙ fails_before_first is_colon line k d (omega arith))

  within_by : (b : Bool) → nat_lt place (length line) ≡ b → place < length line
  within_by true is = ltb-true place (length line) is
  within_by false is =
      let most = prefix_len-le-length (λ c. not (is_colon c)) line in
      let same : place ≡ length line = omega (arith, ltb-false place (length line) is) in
      let all : before ≡ line = take_all place line (omega arith) in
      absurd (true≢false (sym some ∙ ap (list_any is_colon) (sym all) ∙ none_before))

  within : place < length line
  within = within_by (nat_lt place (length line)) refl

  colon : get_or line place 0 ≡ 58
  colon = eqb-true (get_or line place 0) 58 (passes_at_first is_colon line 0 within)

  cut : line ≡ before ++ 58 ∷ after
  cut = split_at_first is_colon line 0 within ∙ ap (λ c. before ++ c ∷ after) colon

  cut_ends : list_any is_line_end before || list_any is_line_end (58 ∷ after) ≡ false
  cut_ends = sym (list_any-append is_line_end before (58 ∷ after)) ∙ ap (list_any is_line_end) (sym cut) ∙ good.1

  good_before : IsGoodLine before
  good_before = (
    before_ascii before 58 after (lit< tt) (subst IsUtf8 cut good.0),
    (or_false (list_any is_line_end before) (list_any is_line_end (58 ∷ after)) cut_ends).0,
  )

  good_after : IsGoodLine after
  good_after = (
    after_ascii before 58 after (lit< tt) (subst IsUtf8 cut good.0),
    (or_false (list_any is_line_end before) (list_any is_line_end (58 ∷ after)) cut_ends).1,
  )

  -- the label is what stands before the colon, trimmed
  label_trimmed : (rules : Rules) → begins_element line ≡ true → is_label (label_of rules before) ≡ true
      → label_of rules before ≡ trim before
  label_trimmed V097 begins is = refl
  label_trimmed V10 begins is =
      let two = both_true (not (bytes_eq before [])) (not (ends_with_blank before)) is in
      let plain = (both_true (not (is_blank_line line)) (not (begins_with_blank line)) begins).1 in
      let first = begins_in before (not_empty before (not_true _ two.0)) (ap begins_with_blank (sym cut) ∙ not_true _ plain) in
      sym (stays_trimmed before first (not_true _ two.1))
    where
      begins_in : (front : List ℕ) → front ≢ [] → begins_with_blank (front ++ 58 ∷ after) ≡ false
          → begins_with_blank front ≡ false
      begins_in [] some h = absurd (some refl)
      begins_in (c ∷ front) some h = h

  label_good : (rules : Rules) (label : List ℕ) → begins_element line ≡ true → is_label (label_of rules before) ≡ true
      → label ≡ label_of rules before → has_mark label ≡ false → IsUtf8 label × (is_bad_label label ≡ false)
  label_good rules label begins is same unmarked =
      let trimmed : label ≡ trim before = same ∙ label_trimmed rules begins is in
      let some = (both_true (not (bytes_eq (label_of rules before) [])) _ is).0 in (
        subst IsUtf8 (sym trimmed) (trim_text before good_before.0),
        or_from (bytes_eq label [] || list_any is_colon label || list_any is_line_end label || has_outer_blank label)
            (has_mark label)
            (or_from (bytes_eq label [] || list_any is_colon label || list_any is_line_end label) (has_outer_blank label)
            (or_from (bytes_eq label [] || list_any is_colon label) (list_any is_line_end label)
            (or_from (bytes_eq label []) (list_any is_colon label)
            (ap (λ t. bytes_eq t []) same ∙ not_true _ some)
            (ap (list_any is_colon) trimmed ∙ none_trimmed is_colon before none_before))
            (ap (list_any is_line_end) trimmed ∙ none_trimmed is_line_end before good_before.1))
            (ap has_outer_blank trimmed ∙ trim_twice before))
            unmarked,
      )

-- ---- an element

at_line : (all : List (List ℕ)) (k : ℕ) (line : List ℕ) → AllByRecursion IsGoodLine all → IsLine all k line
    → IsGoodLine line
at_line all k line good at = at_place IsGoodLine all (k - 1) line good at.1

read_good : (rules : Rules) (all : List (List ℕ)) (e : Element) → AllByRecursion IsGoodLine all → IsElement rules all e
    → has_mark e.label ≡ false → IsText e.label × IsText e.value × (is_bad_long_element (e.label, e.value) ≡ false)
read_good rules all e good (line, part, at, begins, splits, value) unmarked =
    let here = at_line all e.line line good at in
    let front = label_of rules (before_first is_colon line) in
    let rest = after_first is_colon line in
    let test = list_any is_colon line && is_label front && may_follow_colon rules rest in
    let made = cond_some {A = List ℕ × List ℕ} test (front, rest) (e.label, part) splits in
    let two = both_true (list_any is_colon line && is_label front) (may_follow_colon rules rest) made.0 in
    let one = both_true (list_any is_colon line) (is_label front) two.0 in
    let label = label_good line here one.0 rules e.label begins one.1 (ap (λ (x : List ℕ × List ℕ). x.0) (sym made.1)) unmarked in
    let tail = subst IsGoodLine (ap (λ (x : List ℕ × List ℕ). x.1) made.1) (good_after line here one.0) in
    let whole = value_good part (continuations all e.line) tail (more_lines all e.line good) in (
      is_utf8-from_IsUtf8 e.label label.0,
      is_utf8-from_IsUtf8 e.value (subst IsUtf8 (sym value) whole.0),
      or_from (is_bad_label e.label) (is_bad_long_value e.value) label.1 (ap is_bad_long_value value ∙ whole.1),
    )

-- ---- the lines of a file

mark_is : encode_utf8 0xfeff ≡ byte_order_mark
unfolding encode_utf8
mark_is = refl

mark_front : (bytes : List ℕ) → has_mark bytes ≡ true → bytes ≡ byte_order_mark ++ drop 3 bytes
mark_front bytes is = (starts_is {E = nat_eq} Decides-eqb bytes byte_order_mark (has_mark bytes) refl).0 is

unmarked_text : (b : Bool) (bytes : List ℕ) → has_mark bytes ≡ b → IsUtf8 bytes → IsUtf8 (cond b (drop 3 bytes) bytes)
unmarked_text true bytes is text =
    IsUtf8-past_char bytes (drop 3 bytes) 0xfeff text
    (mark_front bytes is ∙ ap (λ m. m ++ drop 3 bytes) (sym mark_is))
unmarked_text false bytes is text = text

lines_by : (b : Bool) (bytes : List ℕ) → is_utf8 bytes ≡ b
    → AllByRecursion IsGoodLine (lines_of_text (cond b (Some (without_mark bytes)) None))
lines_by true bytes is = lines_good (without_mark bytes) (unmarked_text (has_mark bytes) bytes refl (IsUtf8-from_is_utf8 bytes is))
lines_by false bytes is = tt

pub read_can_be_written : ReadInfoCanBeWritten
read_can_be_written rules bytes e is unmarked =
    read_good rules (lines_of_file bytes) e (lines_by (is_utf8 bytes) bytes refl) is unmarked
