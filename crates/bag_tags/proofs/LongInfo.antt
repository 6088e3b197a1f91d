-- Elements whose values stand over several lines are read again, and no others, with no fault.
use Rattle.bag_tags.proofs.Common.{Bool, List, Some, [], ap, append_assoc, append-nil, arith, bytes_eq, codes, drop}
use Rattle.bag_tags.proofs.Common.{false, map, not, refl, subst, sym, true, ℕ, ◌++◌, ◌+◌, ◌∙◌, ◌∷◌, ◌≡◌}
use Rattle.bag_tags.proofs.Common.{◌≢◌, eqb, AllByRecursion, list_any, or_false, is_line_end, line_feed}
use Rattle.bag_tags.proofs.Common.{trim, IsText, NewElement, V10, has_outer_blank, info_line, begins_element, split, is_blank}
use Rattle.bag_tags.proofs.Common.{IsUtf8-append, IsUtf8-from_is_utf8, nat_tests}
use Rattle.bag_text.specs.declared.rules.Rules.{Rules}
use Rattle.std.proofs.lemmas.List.Splits.{join_with_byte-slice_split}
use Rattle.std.specs.List.{enumerate_from, join_with_byte, onto_first}
use Rattle.std.proofs.Common.{cond, ◌||◌}
use Rattle.std.specs.Char.{encode_utf8}
use Rattle.std.specs.Str.{is_utf8, chars}
use Rattle.bag_text.specs.Text.{begins_with_blank, is_blank_line, tab}
use Rattle.bag_read.specs.InfoReader.{elements, faults, value_on, with_part}
use Rattle.bag_read.specs.declared.info.Element.{Element}
use Rattle.bag_tags.specs.Element.{is_bad_label, is_bad_value}
use Rattle.bag_tags.specs.OnLines.{is_bad_long_element, is_bad_long_value, on_lines, text_on_lines, value_lines}
use Rattle.bag_tags.proofs.TrimmedTexts.{trimmed, first_unblank}
use Rattle.bag_tags.proofs.CutTexts.{parts_are_texts}
use Rattle.bag_tags.proofs.WrittenLines.{IsWritten, file_lines, is_text, text}
use Rattle.bag_tags.proofs.Common.{lit<, is_utf8-from_IsUtf8, IsUtf8, true≢false, both_true, not_true, ◌&&◌, None}
use Rattle.bag_read.specs.InfoReader.{element_if, fault_at, fault_unless}
use Rattle.bag_tags.proofs.Common.{Option, Contains, LineFault, recursion_from_All, lines_of_file, AreTexts}
use Rattle.bag_tags.specs.ReadAgain.{LongInfoIsReadAgain, LongInfoIsReadAgainBy}
use Rattle.bag_read.specs.Info.{IsInfoFault}
use Rattle.bag_text.proofs.ListOf.{contains_nothing}
use Rattle.bag_read.proofs.InfoFaults.{faults_of_text}
use Rattle.std.specs.Option.{option_to_list}
use Rattle.std.proofs.lemmas.Bool.{or_from}
use Rattle.bag_tags.proofs.InfoLines.{IsGood, begins, part_is_value, splits, written}

-- ---- the lines of a value

-- a line and those after it, each begun by a tab
abbrev joined : List (List ℕ) → List ℕ
joined [] = []
joined (part ∷ parts) = (line_feed ∷ tab ∷ part) ++ joined parts

abbrev on_joined : List (List ℕ) → List ℕ
on_joined [] = []
on_joined (part ∷ parts) = part ++ joined parts

on_first : (c : ℕ) (parts : List (List ℕ)) → parts ≢ [] → on_joined (onto_first c parts) ≡ c ∷ on_joined parts
on_first c [] some = absurd (some refl)
on_first c (part ∷ parts) some = refl

some_part : (c : ℕ) (parts : List (List ℕ)) → onto_first c parts ≢ []
some_part c [] = λ e. cc
some_part c (part ∷ parts) = λ e. cc

some_by : (b : Bool) (c : ℕ) (parts : List (List ℕ)) → cond b ([] ∷ parts) (onto_first c parts) ≢ []
some_by true c parts = λ e. cc
some_by false c parts = some_part c parts

some_line : (value : List ℕ) → value_lines value ≢ []
some_line [] = λ e. cc
some_line (c ∷ value) = some_by (eqb c line_feed) c (value_lines value)

tabbed : (parts : List (List ℕ)) → parts ≢ [] → on_joined ([] ∷ parts) ≡ line_feed ∷ tab ∷ on_joined parts
tabbed [] some = absurd (some refl)
tabbed (part ∷ parts) some = refl

on_by : (b : Bool) (c : ℕ) (value : List ℕ) (parts : List (List ℕ)) → parts ≢ [] → value ≡ on_joined parts
    → cond b (line_feed ∷ tab ∷ []) (c ∷ []) ++ value ≡ on_joined (cond b ([] ∷ parts) (onto_first c parts))
on_by true c value parts some same = ap (λ t. line_feed ∷ tab ∷ t) same ∙ sym (tabbed parts some)
on_by false c value parts some same = ap (λ t. c ∷ t) same ∙ sym (on_first c parts some)

-- a value is its first line and those after it, each begun by a tab
pub on_lines_joined : (value : List ℕ) → on_lines value ≡ on_joined (value_lines value)
on_lines_joined [] = refl
on_lines_joined (c ∷ value) =
    on_by (eqb c line_feed) c (on_lines value) (value_lines value) (some_line value) (on_lines_joined value)

-- ---- the lines of an element

-- the first line of an element, and those that go on with it
abbrev with_label : List ℕ → List (List ℕ) → List (List ℕ)
with_label label [] = []
with_label label (part ∷ parts) = info_line (label, part) ∷ map (λ p. tab ∷ p) parts

abbrev all_lines : List NewElement → List (List ℕ)
all_lines [] = []
all_lines (e ∷ elements) = with_label e.0 (value_lines e.1) ++ all_lines elements

abbrev itself : List ℕ → List ℕ
itself line = line

more_text : (parts : List (List ℕ))
    → joined parts ++ line_feed ∷ [] ≡ line_feed ∷ text itself (map (λ p. tab ∷ p) parts)
more_text [] = refl
more_text (part ∷ parts) =
    append_assoc (line_feed ∷ tab ∷ part) (joined parts) (line_feed ∷ [])
    ∙ ap (λ t. line_feed ∷ tab ∷ part ++ t) (more_text parts)
    ∙ ap (λ t. line_feed ∷ t) (sym (append_assoc (tab ∷ part) (line_feed ∷ []) (text itself (map (λ p. tab ∷ p) parts))))

text_of_parts : (label : List ℕ) (parts : List (List ℕ)) → parts ≢ []
    → label ++ codes ": " ++ on_joined parts ++ line_feed ∷ [] ≡ text itself (with_label label parts)
text_of_parts label [] some = absurd (some refl)
text_of_parts label (part ∷ parts) some =
    let front = label ++ codes ": " in
    append_assoc front (part ++ joined parts) (line_feed ∷ [])
    ∙ ap (λ t. front ++ t) (append_assoc part (joined parts) (line_feed ∷ []) ∙ ap (λ t. part ++ t) (more_text parts))
    ∙ sym (append_assoc front part (line_feed ∷ text itself (map (λ p. tab ∷ p) parts)))
    ∙ sym (append_assoc (front ++ part) (line_feed ∷ []) (text itself (map (λ p. tab ∷ p) parts)))

text_joined : (xs ys : List (List ℕ)) → text itself (xs ++ ys) ≡ text itself xs ++ text itself ys
text_joined [] ys = refl
text_joined (x ∷ xs) ys =
    ap (λ t. (x ++ line_feed ∷ []) ++ t) (text_joined xs ys)
    ∙ sym (append_assoc (x ++ line_feed ∷ []) (text itself xs) (text itself ys))

same_text : (elements : List NewElement) → text_on_lines elements ≡ text itself (all_lines elements)
same_text [] = refl
same_text (e ∷ elements) =
    ap (λ t. (e.0 ++ codes ": " ++ t ++ line_feed ∷ []) ++ text_on_lines elements) (on_lines_joined e.1)
    ∙ ap (λ t. t ++ text_on_lines elements) (text_of_parts e.0 (value_lines e.1) (some_line e.1))
    ∙ ap (λ t. text itself (with_label e.0 (value_lines e.1)) ++ t) (same_text elements)
    ∙ sym (text_joined (with_label e.0 (value_lines e.1)) (all_lines elements))

-- ---- elements that can be written

-- a line of a value after the first
abbrev IsGoodPart : List ℕ → Type 0
IsGoodPart part = (is_bad_value part ≡ false) × (bytes_eq part [] ≡ false) × IsUtf8 part

-- what is known of the lines of a value
abbrev AreGood : List ℕ → List (List ℕ) → Type 0
AreGood label [] = ⊥
AreGood label (part ∷ parts) = IsGood (label, part) × AllByRecursion IsGoodPart parts

good_parts : (parts : List (List ℕ)) → list_any is_bad_value parts ≡ false
    → list_any (λ line. bytes_eq line []) parts ≡ false → AllByRecursion IsUtf8 parts → AllByRecursion IsGoodPart parts
good_parts [] fine some texts = tt
good_parts (part ∷ parts) fine some texts =
    let two = or_false (is_bad_value part) (list_any is_bad_value parts) fine in
    let none = or_false (bytes_eq part []) (list_any (λ line. bytes_eq line []) parts) some in
    ((two.0, none.0, texts.0), good_parts parts two.1 none.1 texts.1)

are_good : (label : List ℕ) (parts : List (List ℕ)) → parts ≢ [] → is_bad_label label ≡ false → IsText label
    → list_any is_bad_value parts ≡ false → list_any (λ line. bytes_eq line []) (drop 1 parts) ≡ false
    → AllByRecursion IsUtf8 parts → AreGood label parts
are_good label [] there good text fine some texts = there refl
are_good label (part ∷ parts) there good text fine some texts =
    let two = or_false (is_bad_value part) (list_any is_bad_value parts) fine in (
      (or_from (is_bad_label label) (is_bad_value part) good two.0, text, is_utf8-from_IsUtf8 part texts.0),
      good_parts parts two.1 some texts.1,
    )

abbrev IsGoodLong : NewElement → Type 0
IsGoodLong e = (is_bad_long_element e ≡ false) × IsText e.0 × IsText e.1

good_lines : (e : NewElement) → IsGoodLong e → AreGood e.0 (value_lines e.1)
good_lines e good =
    let two = or_false (is_bad_label e.0) (is_bad_long_value e.1) good.0 in
    let lines = or_false (list_any is_bad_value (value_lines e.1)) _ two.1 in
    are_good e.0 (value_lines e.1) (some_line e.1) two.0 good.1 lines.0 lines.1
    (parts_are_texts line_feed (value_lines e.1) (lit< tt)
    (subst IsUtf8 (sym (join_with_byte-slice_split line_feed e.1)) (IsUtf8-from_is_utf8 e.1 good.2)))

-- a tab is a text, and is trimmed away in front
tab_utf8 : IsUtf8 (tab ∷ [])
unfolding is_utf8 chars encode_utf8
tab_utf8 = IsUtf8-from_is_utf8 (tab ∷ []) refl

trim_tab : (t : List ℕ) → trim (tab ∷ t) ≡ trim t
trim_tab t = grind arith

-- a line that goes on with an element
module _ (part : List ℕ) (good : IsGoodPart part) where
  fine_part : (list_any is_line_end part ≡ false) × (has_outer_blank part ≡ false)
  fine_part = or_false (list_any is_line_end part) (has_outer_blank part) good.0

  part_written : IsWritten itself (tab ∷ part)
  part_written = (IsUtf8-append (tab ∷ []) part tab_utf8 good.2, fine_part.0, λ rest. refl)

  part_trimmed : trim (tab ∷ part) ≡ part
  part_trimmed = trim_tab part ∙ trimmed part fine_part.1

part_plain : (part : List ℕ) → IsGoodPart part → is_blank_line (tab ∷ part) ≡ false
part_plain [] good = absurd (true≢false good.1)
part_plain (c ∷ part) good =
    let first : is_blank c ≡ false = first_unblank c part (trimmed (c ∷ part) (fine_part (c ∷ part) good).1) in
    grind (arith, nat_tests)

-- ---- reading the lines again

-- the parts of a value after the first, each behind a line feed
abbrev tails : List (List ℕ) → List ℕ
tails [] = []
tails (part ∷ parts) = (line_feed ∷ part) ++ tails parts

-- no lines, or some of which the first begins an element
abbrev Stops : List (List ℕ) → Type 0
Stops [] = Unit {0}
Stops (line ∷ more) = begins_element line ≡ true

begins_plain : (line : List ℕ) → begins_element line ≡ true
    → (is_blank_line line ≡ false) × (begins_with_blank line ≡ false)
begins_plain line begins =
    let two = both_true (not (is_blank_line line)) (not (begins_with_blank line)) begins in
    (not_true _ two.0, not_true _ two.1)

value_stops : (n : ℕ) (value : List ℕ) (more : List (List ℕ)) → Stops more → value_on value (enumerate_from n more) ≡ value
value_stops n value [] stops = refl
value_stops n value (line ∷ more) stops =
    let plain = begins_plain line stops in rw (plain.0, plain.1) refl

value_goes_on : (n : ℕ) (value : List ℕ) (parts more : List (List ℕ)) → AllByRecursion IsGoodPart parts → Stops more
    → value_on value (enumerate_from n (map (λ p. tab ∷ p) parts ++ more)) ≡ value ++ tails parts
value_goes_on n value [] more good stops = value_stops n value more stops ∙ sym (append-nil value)
value_goes_on n value (part ∷ parts) more good stops =
    let xs = enumerate_from (n + 1) (map (λ p. tab ∷ p) parts ++ more) in
    ap (λ b. cond b (value_on value xs) (value_on (with_part value (tab ∷ part)) xs)) (part_plain part good.0)
    ∙ ap (λ t. value_on (value ++ line_feed ∷ t) xs) (part_trimmed part good.0)
    ∙ value_goes_on (n + 1) (value ++ line_feed ∷ part) parts more good.1 stops
    ∙ append_assoc value (line_feed ∷ part) (tails parts)

value_joined : (part : List ℕ) (parts : List (List ℕ)) → part ++ tails parts ≡ join_with_byte line_feed (part ∷ parts)
value_joined part [] = append-nil part
value_joined part (next ∷ parts) = ap (λ t. part ++ line_feed ∷ t) (value_joined next parts)

module _ (rules : Rules) where
  -- the elements of lines that are counted from n
  abbrev read_from : ℕ → List (List ℕ) → List NewElement
  read_from n all = map {B = NewElement} (λ e. (e.label, e.value)) (elements rules (enumerate_from n all))

  -- a line that goes on with an element begins none
  no_begin : (part : List ℕ) → IsGoodPart part → begins_element (tab ∷ part) ≡ false
  no_begin part good = ap (λ b. not b && false) (part_plain part good)

  read_on : (n : ℕ) (part : List ℕ) (rest : List (List ℕ)) → IsGoodPart part
      → read_from n ((tab ∷ part) ∷ rest) ≡ read_from (n + 1) rest
  read_on n part rest good =
      let xs = enumerate_from (n + 1) rest in
      ap (λ b. map {B = NewElement} (λ e. (e.label, e.value))
      (option_to_list (cond b (element_if n (split rules (tab ∷ part)) xs) None) ++ elements rules xs)) (no_begin part good)

  passed : (parts more : List (List ℕ)) (items : List NewElement) → AllByRecursion IsGoodPart parts
      → ((m : ℕ) → read_from m more ≡ items) → (n : ℕ) → read_from n (map (λ p. tab ∷ p) parts ++ more) ≡ items
  passed [] more items good h n = h n
  passed (part ∷ parts) more items good h n =
      read_on n part (map (λ p. tab ∷ p) parts ++ more) good.0 ∙ passed parts more items good.1 h (n + 1)

  first_read : (label part : List ℕ) (n : ℕ) (rest : List (List ℕ)) → IsGood (label, part)
      → read_from n (info_line (label, part) ∷ rest)
      ≡ (label, value_on part (enumerate_from (n + 1) rest)) ∷ read_from (n + 1) rest
  first_read label part n rest good =
      let xs = enumerate_from (n + 1) rest in
      let line = info_line (label, part) in
      let read = λ (o : Option Element).
      map {B = NewElement} (λ e. (e.label, e.value)) (option_to_list o ++ elements rules xs) in
      ap (λ b. read (cond b (element_if n (split rules line) xs) None)) (begins (label, part) good)
      ∙ ap (λ o. read (element_if n o xs)) (splits (label, part) good rules)
      ∙ ap (λ t. read (Some (record { line = n; label = label; value = value_on t xs }))) (part_is_value (label, part) good)

  module _ (label : List ℕ) (more : List (List ℕ)) (items : List NewElement) (stops : Stops more)
      (h : (m : ℕ) → read_from m more ≡ items) where
    element_read : (parts : List (List ℕ)) (n : ℕ) → AreGood label parts
        → read_from n (with_label label parts ++ more) ≡ (label, join_with_byte line_feed parts) ∷ items
    element_read [] n good = absurd good
    element_read (part ∷ parts) n good =
        let rest = map (λ p. tab ∷ p) parts ++ more in
        first_read label part n rest good.0
        ∙ ap (λ t. (label, t) ∷ read_from (n + 1) rest)
        (value_goes_on (n + 1) part parts more good.1 stops ∙ value_joined part parts)
        ∙ ap (λ es. (label, join_with_byte line_feed (part ∷ parts)) ∷ es) (passed parts more items good.1 h (n + 1))

  lines_stop : (label : List ℕ) (parts more : List (List ℕ)) → AreGood label parts → Stops (with_label label parts ++ more)
  lines_stop label [] more good = absurd good
  lines_stop label (part ∷ parts) more good = begins (label, part) good.0

  all_stop : (elements : List NewElement) → AllByRecursion IsGoodLong elements → Stops (all_lines elements)
  all_stop [] good = tt
  all_stop (e ∷ elements) good = lines_stop e.0 (value_lines e.1) (all_lines elements) (good_lines e good.0)

  -- the elements are read again
  all_read : (elements : List NewElement) → AllByRecursion IsGoodLong elements → (n : ℕ)
      → read_from n (all_lines elements) ≡ elements
  all_read [] good n = refl
  all_read (e ∷ elements) good n =
      element_read e.0 (all_lines elements) elements (all_stop elements good.1) (all_read elements good.1) (value_lines e.1) n
      (good_lines e good.0)
      ∙ ap (λ t. (e.0, t) ∷ elements) (join_with_byte-slice_split line_feed e.1)

  -- ---- no line is wrong

  on_faults : (parts more : List (List ℕ)) → AllByRecursion IsGoodPart parts
      → ((m : ℕ) → faults rules true (enumerate_from m more) ≡ []) → (n : ℕ)
      → faults rules true (enumerate_from n (map (λ p. tab ∷ p) parts ++ more)) ≡ []
  on_faults [] more good h n = h n
  on_faults (part ∷ parts) more good h n =
      let xs = enumerate_from (n + 1) (map (λ p. tab ∷ p) parts ++ more) in
      ap (λ b. option_to_list (cond b None None) ++ faults rules true xs) (part_plain part good.0)
      ∙ on_faults parts more good.1 h (n + 1)

  begun_true : (begun : Bool) → (begun || true) ≡ true
  begun_true true = refl
  begun_true false = refl

  first_faults : (label part : List ℕ) (begun : Bool) (n : ℕ) (rest : List (List ℕ)) → IsGood (label, part)
      → faults rules begun (enumerate_from n (info_line (label, part) ∷ rest)) ≡ faults rules true (enumerate_from (n + 1) rest)
  first_faults label part begun n rest good =
      let xs = enumerate_from (n + 1) rest in
      let line = info_line (label, part) in
      let plain = begins_plain line (begins (label, part) good) in
      ap (λ b. option_to_list (fault_at rules begun n line) ++ faults rules (begun || b) xs) (begins (label, part) good)
      ∙ ap (λ b. option_to_list (fault_at rules begun n line) ++ faults rules b xs) (begun_true begun)
      ∙ ap (λ o. option_to_list o ++ faults rules true xs)
      (no_fault_at line plain ∙ ap (fault_unless n) (splits (label, part) good rules))
    where
      no_fault_at : (line : List ℕ) → (is_blank_line line ≡ false) × (begins_with_blank line ≡ false)
          → fault_at rules begun n line ≡ fault_unless n (split rules line)
      no_fault_at line plain = rw (plain.0, plain.1) refl

  lines_faults : (label : List ℕ) (parts more : List (List ℕ)) (begun : Bool) (n : ℕ) → AreGood label parts
      → ((m : ℕ) → faults rules true (enumerate_from m more) ≡ [])
      → faults rules begun (enumerate_from n (with_label label parts ++ more)) ≡ []
  lines_faults label [] more begun n good h = absurd good
  lines_faults label (part ∷ parts) more begun n good h =
      first_faults label part begun n (map (λ p. tab ∷ p) parts ++ more) good.0
      ∙ on_faults parts more good.1 h (n + 1)

  no_faults : (elements : List NewElement) → AllByRecursion IsGoodLong elements → (begun : Bool) (n : ℕ)
      → faults rules begun (enumerate_from n (all_lines elements)) ≡ []
  no_faults [] good begun n = refl
  no_faults (e ∷ elements) good begun n =
      lines_faults e.0 (value_lines e.1) (all_lines elements) begun n (good_lines e good.0)
      (no_faults elements good.1 true)

-- ---- the lines of the file

parts_written : (parts : List (List ℕ)) → AllByRecursion IsGoodPart parts
    → AllByRecursion (IsWritten itself) (map (λ p. tab ∷ p) parts)
parts_written [] good = tt
parts_written (part ∷ parts) good = (part_written part good.0, parts_written parts good.1)

written_on : (xs ys : List (List ℕ)) → AllByRecursion (IsWritten itself) xs → AllByRecursion (IsWritten itself) ys
    → AllByRecursion (IsWritten itself) (xs ++ ys)
written_on [] ys all more = more
written_on (x ∷ xs) ys all more = (all.0, written_on xs ys all.1 more)

lines_written : (label : List ℕ) (parts : List (List ℕ)) → AreGood label parts
    → AllByRecursion (IsWritten itself) (with_label label parts)
lines_written label [] good = absurd good
lines_written label (part ∷ parts) good = (written (label, part) good.0, parts_written parts good.1)

all_written : (elements : List NewElement) → AllByRecursion IsGoodLong elements
    → AllByRecursion (IsWritten itself) (all_lines elements)
all_written [] good = tt
all_written (e ∷ elements) good =
    written_on (with_label e.0 (value_lines e.1)) (all_lines elements)
    (lines_written e.0 (value_lines e.1) (good_lines e good.0)) (all_written elements good.1)

all_themselves : (lines : List (List ℕ)) → map itself lines ≡ lines
all_themselves [] = refl
all_themselves (line ∷ lines) = ap (λ ls. line ∷ ls) (all_themselves lines)

good_each : (elements : List NewElement) → AllByRecursion AreTexts elements
    → list_any is_bad_long_element elements ≡ false → AllByRecursion IsGoodLong elements
good_each [] texts fine = tt
good_each (e ∷ elements) texts fine =
    let two = or_false (is_bad_long_element e) (list_any is_bad_long_element elements) fine in
    ((two.0, texts.0.0, texts.0.1), good_each elements texts.1 two.1)

module _ (elements : List NewElement) (good : AllByRecursion IsGoodLong elements) where
  lines_are : lines_of_file (text_on_lines elements) ≡ all_lines elements
  lines_are =
      ap lines_of_file (same_text elements) ∙ file_lines itself (all_lines elements) (all_written elements good)
      ∙ all_themselves (all_lines elements)

  text_is : IsText (text_on_lines elements)
  text_is = subst IsText (sym (same_text elements)) (is_text itself (all_lines elements) (all_written elements good))

  none_wrong : (rules : Rules) (f : LineFault) → ¬ (IsInfoFault rules (text_on_lines elements) f)
  none_wrong rules f wrong =
      contains_nothing f
      (subst (λ fs. Contains fs f)
      (ap (λ ls. faults rules false (enumerate_from 1 ls)) lines_are ∙ no_faults rules elements good false 1)
      (((faults_of_text rules (text_on_lines elements) text_is).members f).1 wrong))

pub long_info_again_by : (rules : Rules) → LongInfoIsReadAgainBy rules
long_info_again_by rules elements texts fine =
    let good = good_each elements (recursion_from_All _ elements texts) fine in (
      text_is elements good,
      ap (read_from rules 1) (lines_are elements good) ∙ all_read rules elements good 1,
      none_wrong elements good rules,
    )

pub long_info_again : LongInfoIsReadAgain
long_info_again = long_info_again_by V10
