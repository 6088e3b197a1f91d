-- Lines that are read alike by the rules of two versions, and those of 1.0 that 0.97 reads so too.
use Rattle.bag_renew.proofs.Common.{arith, ◌≡◌, ◌≢◌, ◌⊎◌, ◌++◌, ◌+◌, ◌&&◌, ◌∷◌, ◌∙◌, inl, inr, ℕ, zero, suc, Bool, true}
use Rattle.bag_renew.proofs.Common.{false, not, cond, List, [], Option, None, Some, is_some, refl, ap, sym, subst}
use Rattle.bag_renew.proofs.Common.{Contains, take, and_parts, or_parts, false≢true, bytes_eq, list_any, contains_behind}
use Rattle.bag_renew.proofs.Common.{contains_first, contains_front, Kind, Alg}
use Rattle.std.proofs.Common.{drop, take-append-drop, ◌-◌, ◌==◌}
use Rattle.std.proofs.lemmas.Option.{get_or_from_slice_get, slice_get-get_or, slice_get_within}
use Rattle.std.specs.List.{after_first, before_first, cons_option, enumerate_from, slice_get}
use Rattle.std.specs.Option.{option_to_list}
use Rattle.std.specs.Prelude.{Err, Ok, Result, codes, filter_map}
use Rattle.std.specs.Str.{str_to_ascii_lowercase}
use Rattle.bag_text.specs.Lines.{IsLine, carriage_return, line_feed, lines_of_file}
use Rattle.bag_text.specs.Rules.{is_after_colon}
use Rattle.bag_text.specs.Spelling.{escaped, line_end, percent}
use Rattle.bag_text.specs.Spells.{BeginsWith, BeginsWithNone, SpellsLineEnds, SpellsOne, SpellsStrictly}
use Rattle.bag_text.specs.Text.{begins_with_blank, ends_with_blank, is_blank_line, trim}
use Rattle.bag_text.specs.declared.code.Code.{Code}
use Rattle.bag_text.specs.declared.code.Code.TheVariants.{DigestLength, InfoLine, ManifestEscape, ManifestLine}
use Rattle.bag_text.specs.declared.code.Code.TheVariants.{ManifestOutsidePayload, ManifestUnsafePath, NamedAgain, NotUtf8}
use Rattle.bag_text.specs.declared.code.Code.TheVariants.{TagmanifestNamesPayload, TagmanifestNamesTagmanifest}
use Rattle.bag_text.specs.declared.rules.Rules.{Rules}
use Rattle.bag_text.specs.declared.rules.Rules.TheVariants.{V10, V097}
use Rattle.bag_read.proofs.ManifestEntries.{path_of, path_of_reads}
use Rattle.bag_read.proofs.ManifestLine.{IsReasonCode, reason_code}
use Rattle.bag_read.proofs.ManifestLineParts.{lines_read}
use Rattle.bag_read.proofs.PickedOut.{is_picked}
use Rattle.bag_read.specs.Info.{InfoFault, IsElement, IsInfoFault, begins_element, is_colon, is_label, split}
use Rattle.bag_read.specs.InfoReader.{Numbered, element_at, element_if, elements}
use Rattle.bag_read.specs.Manifest.{HasUnreadLine, IsEntry, IsManifestFault, ManifestFault, ReadsManifest, manifest_line}
use Rattle.bag_read.specs.Manifest.{named, named_before, path_read}
use Rattle.bag_read.specs.ManifestLine.{IsManifestLine}
use Rattle.bag_read.specs.Reason.{Reason}
use Rattle.bag_read.specs.declared.info.Element.{Element}
use Rattle.bag_read.specs.declared.line_fault.LineFault.{LineFault}
use Rattle.bag_entries.specs.declared.entry.ManifestEntry.{ManifestEntry}
use Rattle.bag_tags.proofs.TrimmedTexts.{stays_trimmed}
use Rattle.bag_changes.specs.Obstacles.{has_percent}

-- ---- lines

-- a line of a file stands among its lines
pub among : (lines : List (List ℕ)) (k : ℕ) (line : List ℕ) → IsLine lines k line → Contains lines line
among lines k line (some, at) =
    (k - 1, slice_get_within lines (k - 1) line at, get_or_from_slice_get lines (k - 1) line line at)

-- and what stands among them is one
numbered : (lines : List (List ℕ)) (line : List ℕ) → Contains lines line → (k : ℕ) × IsLine lines k line
numbered lines line (n, low, at) =
    let step : n + 1 - 1 ≡ n = omega arith in
    (n + 1, (omega arith, ap (slice_get lines) step ∙ slice_get-get_or lines n line low ∙ ap Some at))

in_front : (n : ℕ) (lines : List (List ℕ)) (line : List ℕ) → Contains (take n lines) line → Contains lines line
in_front n lines line has =
    subst (λ l. Contains l line) (take-append-drop n lines) (contains_front (take n lines) (drop n lines) line has)

picked_alike : {A : Type 0} (f g : A → Option (List ℕ)) (xs : List A) → ((x : A) → Contains xs x → f x ≡ g x)
    → filter_map f xs ≡ filter_map g xs
picked_alike f g [] each = refl
picked_alike f g (x ∷ xs) each =
    let rest = picked_alike f g xs (λ y has. each y (contains_behind x xs y has)) in
    λ i. cons_option (each x (contains_first x xs) i) (rest i)

-- ---- manifests whose lines the rules of two versions read alike

module _ (one other : Rules) (kind : Kind) (alg : Alg) where
  abbrev pub ReadAlike : List (List ℕ) → Type 0
  ReadAlike lines =
      (line : List ℕ) → Contains lines line → is_blank_line line ≡ false
      → manifest_line one kind alg line ≡ manifest_line other kind alg line

  path_alike : (line : List ℕ) (b : Bool) → is_blank_line line ≡ b
      → (is_blank_line line ≡ false → manifest_line one kind alg line ≡ manifest_line other kind alg line)
      → path_of one kind alg line ≡ path_of other kind alg line
  path_alike line true blank same =
      ap (λ b. cond b None (path_read (manifest_line one kind alg line))) blank
      ∙ sym (ap (λ b. cond b None (path_read (manifest_line other kind alg line))) blank)
  path_alike line false some same = ap (λ r. cond (is_blank_line line) None (path_read r)) (same some)

  pub named_alike : (lines : List (List ℕ)) → ReadAlike lines
      → named one kind alg lines ≡ named other kind alg lines
  named_alike lines alike =
      picked_alike (path_of one kind alg) (path_of other kind alg) lines (λ line has.
      path_alike line (is_blank_line line) refl (alike line has))

  before_alike : (lines : List (List ℕ)) (k : ℕ) → ReadAlike lines
      → named_before one kind alg lines k ≡ named_before other kind alg lines k
  before_alike lines k alike =
      named_alike (take (k - 1) lines) (λ line has. alike line (in_front (k - 1) lines line has))

  reads_alike : (lines : List (List ℕ)) (k : ℕ) (line digest path : List ℕ) → ReadAlike lines → IsLine lines k line
      → ReadsManifest one kind alg line digest path → ReadsManifest other kind alg line digest path
  reads_alike lines k line digest path alike is (some, reads) =
      (some, sym (alike line (among lines k line is) some) ∙ reads)

  pub entry_alike : (lines : List (List ℕ)) → ReadAlike lines → (e : ManifestEntry) → IsEntry one kind alg lines e
      → IsEntry other kind alg lines e
  entry_alike lines alike e (line, is, reads, first) = (
    line,
    is,
    reads_alike lines e.line line e.digest e.path alike is reads,
    λ named. first (subst (λ ps. Contains ps e.path) (sym (before_alike lines e.line alike)) named),
  )

  module _ (bytes : List ℕ) (alike : ReadAlike (lines_of_file bytes)) (f : LineFault) where
    unread : (reason : Code) → HasUnreadLine reason one kind alg bytes f → HasUnreadLine reason other kind alg bytes f
    unread reason (line, is, (some, wrong)) =
        (line, is, (some, sym (alike line (among (lines_of_file bytes) f.line line is) some) ∙ wrong))

    by_code : (code : Code) → ManifestFault code one kind alg bytes f → ManifestFault code other kind alg bytes f
    by_code NotUtf8 h = h
    by_code NamedAgain (line, digest, is, reads, again) = (
      line,
      digest,
      is,
      reads_alike (lines_of_file bytes) f.line line digest f.detail alike is reads,
      subst (λ ps. Contains ps f.detail) (before_alike (lines_of_file bytes) f.line alike) again,
    )
    by_code ManifestLine h = unread ManifestLine h
    by_code DigestLength h = unread DigestLength h
    by_code ManifestEscape h = unread ManifestEscape h
    by_code ManifestUnsafePath h = unread ManifestUnsafePath h
    by_code ManifestOutsidePayload h = unread ManifestOutsidePayload h
    by_code TagmanifestNamesPayload h = unread TagmanifestNamesPayload h
    by_code TagmanifestNamesTagmanifest h = unread TagmanifestNamesTagmanifest h
    by_code _ h = absurd h

    pub fault_alike : IsManifestFault one kind alg bytes f → IsManifestFault other kind alg bytes f
    fault_alike h = by_code f.code h

-- ---- and bag-info.txt

module _ (one other : Rules) where
  abbrev pub SplitAlike : List (List ℕ) → Type 0
  SplitAlike lines =
      (line : List ℕ) → Contains lines line → begins_element line ≡ true → split one line ≡ split other line

  pub element_alike : (lines : List (List ℕ)) → SplitAlike lines → (e : Element) → IsElement one lines e
      → IsElement other lines e
  element_alike lines alike e (line, part, is, begins, splits, value) =
      (line, part, is, begins, sym (alike line (among lines e.line line is) begins) ∙ splits, value)

  element_at_alike : (line : List ℕ) (n : ℕ) (more : Numbered) (b : Bool) → begins_element line ≡ b
      → (begins_element line ≡ true → split one line ≡ split other line)
      → element_at one n line more ≡ element_at other n line more
  element_at_alike line n more true begins same = ap (λ s. cond (begins_element line) (element_if n s more) None) (same begins)
  element_at_alike line n more false goes_on same =
      ap (λ b. cond b (element_if n (split one line) more) None) goes_on
      ∙ sym (ap (λ b. cond b (element_if n (split other line) more) None) goes_on)

  pub elements_alike : (lines : List (List ℕ)) (n : ℕ) → SplitAlike lines
      → elements one (enumerate_from n lines) ≡ elements other (enumerate_from n lines)
  elements_alike [] n alike = refl
  elements_alike (line ∷ lines) n alike =
      let here =
      element_at_alike line n (enumerate_from (n + 1) lines) (begins_element line) refl
      (alike line (contains_first line lines)) in
      let rest = elements_alike lines (n + 1) (λ l has. alike l (contains_behind line lines l has)) in
      λ i. option_to_list (here i) ++ rest i

  module _ (bytes : List ℕ) (alike : SplitAlike (lines_of_file bytes)) (f : LineFault) where
    info_by_code : (code : Code) → InfoFault one code bytes f → InfoFault other code bytes f
    info_by_code NotUtf8 h = h
    info_by_code InfoLine (line, none, is, inl (begins, unsplit)) =
        (line, none, is, inl (begins, sym (alike line (among (lines_of_file bytes) f.line line is) begins) ∙ unsplit))
    info_by_code InfoLine (line, none, is, inr orphan) = (line, none, is, inr orphan)
    info_by_code _ h = absurd h

    pub info_fault_alike : IsInfoFault one bytes f → IsInfoFault other bytes f
    info_fault_alike h = info_by_code f.code h

-- ---- a path without a %, spelled by the rules of 1.0, is spelled by those of 0.97 too

end_by : (feed back mark : Bool) (c : ℕ)
    → ◌≡◌ {A = Option ℕ} (cond feed (Some line_feed) (cond back (Some carriage_return) (cond mark (Some percent) None)))
    (Some c)
    → c ≢ percent
    → ◌≡◌ {A = Option ℕ} (cond feed (Some line_feed) (cond back (Some carriage_return) None)) (Some c)
end_by true back mark c is other = is
end_by false true mark c is other = is
end_by false false true c is other = let same : percent ≡ c = cc in absurd (other (sym same))
end_by false false false c is other = absurd (false≢true (ap is_some is))

is_end : (high low c : ℕ) → escaped high low ≡ Some c → c ≢ percent → line_end high low ≡ Some c
is_end high low c is other =
    let digits = str_to_ascii_lowercase (high ∷ low ∷ []) in
    end_by (bytes_eq digits (codes "0a")) (bytes_eq digits (codes "0d")) (bytes_eq digits (codes "25")) c is other

abbrev first_of : List ℕ → ℕ
first_of [] = 0
first_of (c ∷ s) = c

spells_one : (s front rest : List ℕ) (c : ℕ) → c ≢ percent → s ≡ front ++ rest → SpellsOne front c
    → BeginsWith s c rest ⊎ ((s ≡ c ∷ rest) × BeginsWithNone s)
spells_one s front rest c other whole (inl (plain, is)) =
    let now : s ≡ c ∷ rest = whole ∙ ap (λ t. t ++ rest) is in
    inr (now, λ d more begins. other (ap first_of (sym now ∙ begins.2)))
spells_one s front rest c other whole (inr (high, low, is, stands_for)) =
    inl (high, low, whole ∙ ap (λ t. t ++ rest) is, is_end high low c stands_for other)

spelled_too : (path s : List ℕ) → has_percent path ≡ false → SpellsStrictly s path → SpellsLineEnds s path
spelled_too [] s none spells = spells
spelled_too (c ∷ path) s none (front, rest, whole, first, more) =
    let two = or_parts (c == percent) (list_any (λ d. d == percent) path) none in
    let other : c ≢ percent = λ same. false≢true (sym two.0 ∙ ap (λ d. d == percent) same) in
    (rest, spelled_too path rest two.1 more, spells_one s front rest c other whole first)

line_too : (kind : Kind) (alg : Alg) (line digest path : List ℕ) → has_percent path ≡ false
    → IsManifestLine V10 kind alg line digest path → IsManifestLine V097 kind alg line digest path
line_too kind alg line digest path none is = record {
  hex = is.hex;
  rest = is.rest;
  spelling = is.spelling;
  parts = is.parts;
  only_digits = is.only_digits;
  hex_length = is.hex_length;
  in_lower_case = is.in_lower_case;
  written = is.written;
  spelled = spelled_too path is.spelling none is.spelled;
  is_safe = is.is_safe;
  may_name = is.may_name;
}

-- ---- so a manifest without a fault by the rules of 1.0, that names no path with a %, is read alike

module _ (kind : Kind) (alg : Alg) (text : List ℕ) (good : (f : LineFault) → ¬ (IsManifestFault V10 kind alg text f))
    (plain : (path : List ℕ) → Contains (named V10 kind alg (lines_of_file text)) path → has_percent path ≡ false)
  where
    abbrev lines : List (List ℕ)
    lines = lines_of_file text

    as_fault : (code : Code) (f : LineFault) → IsReasonCode code → HasUnreadLine code V10 kind alg text f
        → ManifestFault code V10 kind alg text f
    as_fault ManifestLine f r h = h
    as_fault DigestLength f r h = h
    as_fault ManifestEscape f r h = h
    as_fault ManifestUnsafePath f r h = h
    as_fault ManifestOutsidePayload f r h = h
    as_fault TagmanifestNamesPayload f r h = h
    as_fault TagmanifestNamesTagmanifest f r h = h
    as_fault _ f r h = absurd r

    all_read : (line : List ℕ) (reason : Reason) → Contains lines line → is_blank_line line ≡ false
        → manifest_line V10 kind alg line ≡ Err reason → ⊥
    all_read line reason has some wrong =
        let n = numbered lines line has in
        let f : LineFault = record { line = n.0; code = reason.0; detail = reason.1 } in
        good f
        (as_fault reason.0 f (reason_code V10 kind alg line reason wrong) (line, n.1, (some, wrong)))

    pub manifest_alike : ReadAlike V097 V10 kind alg lines
    manifest_alike line has some = by_result (manifest_line V10 kind alg line) refl
      where
        by_result : (r : Result (List ℕ × List ℕ) Reason) → manifest_line V10 kind alg line ≡ r
            → manifest_line V097 kind alg line ≡ manifest_line V10 kind alg line
        by_result (Err reason) wrong = absurd (all_read line reason has some wrong)
        by_result (Ok said) reads =
            let here : ReadsManifest V10 kind alg line said.0 said.1 = (some, reads) in
            let none =
            plain said.1
            (is_picked (path_of V10 kind alg) lines line said.1 has
            (path_of_reads V10 kind alg line said.0 said.1 here)) in
            let too =
            (lines_read V097 kind alg line said.0 said.1).1
            (line_too kind alg line said.0 said.1 none ((lines_read V10 kind alg line said.0 said.1).0 here)) in
            too.1 ∙ sym reads

-- ---- and a bag-info.txt without a fault by the rules of 1.0

begins_too : (n : ℕ) (line : List ℕ) → begins_with_blank line ≡ false → begins_with_blank (take n line) ≡ false
begins_too zero line e = refl
begins_too (suc n) [] e = refl
begins_too (suc n) (c ∷ line) e = e

unnegated : (b : Bool) → not b ≡ true → b ≡ false
unnegated false e = refl
unnegated true e = cc

abbrev cut_if : Bool → List ℕ → List ℕ → Option (List ℕ × List ℕ)
cut_if b label rest = cond b (Some (label, rest)) None

module _ (line : List ℕ) (begins : begins_element line ≡ true) where
  abbrev label : List ℕ
  label = before_first is_colon line

  abbrev rest : List ℕ
  rest = after_first is_colon line

  trimmed : is_label label ≡ true → trim label ≡ label
  trimmed is =
      let plain = (and_parts (not (is_blank_line line)) (not (begins_with_blank line)) begins).1 in
      stays_trimmed label
      (begins_too _ line (unnegated (begins_with_blank line) plain))
      (unnegated (ends_with_blank label) (and_parts (not (bytes_eq label [])) (not (ends_with_blank label)) is).1)

  abbrev splits : Bool
  splits = (list_any is_colon line && is_label label) && is_after_colon rest

  split_by : (b : Bool) → splits ≡ b → split V10 line ≢ None → split V097 line ≡ split V10 line
  split_by true is some =
      let two = and_parts (list_any is_colon line && is_label label) (is_after_colon rest) is in
      let same = trimmed (and_parts (list_any is_colon line) (is_label label) two.0).1 in
      ap (λ t. cut_if ((list_any is_colon line && is_label t) && true) t rest) same
      ∙ ap (λ b. cut_if (b && true) label rest) two.0 ∙ sym (ap (λ b. cut_if b label rest) is)
  split_by false isnt some = absurd (some (ap (λ b. cut_if b label rest) isnt))

  pub split_too : split V10 line ≢ None → split V097 line ≡ split V10 line
  split_too some = split_by splits refl some

module _ (text : List ℕ) (good : (f : LineFault) → f.code ≡ InfoLine → ¬ (IsInfoFault V10 text f)) where
  pub info_alike : SplitAlike V097 V10 (lines_of_file text)
  info_alike line has begins =
      split_too line begins (λ none.
      let n = numbered (lines_of_file text) line has in
      good (record { line = n.0; code = InfoLine; detail = [] }) refl (line, refl, n.1, inl (begins, none)))
