use Rattle.bag_faults.proofs.Common.{◌∷◌, ◌++◌, ℕ, List, sym, number, word, field, alg_field, line_field, decimal}
use Rattle.bag_faults.specs.declared.fault.Fault.{Fault}
use Rattle.bag_faults.proofs.Parts.{parts_of, has_parts}
use Rattle.bag_faults.proofs.Spaces.{number_clean, word_clean, field_clean, alg_clean, line_clean}
use Rattle.bag_faults.proofs.from_line.Fields.of.Goals as goal

abbrev after_alg : Fault → List ℕ
after_alg f = line_field f.line ++ 32 ∷ field f.detail

abbrev after_path : Fault → List ℕ
after_path f = alg_field f.alg ++ 32 ∷ after_alg f

abbrev after_word : Fault → List ℕ
after_word f = field f.path ++ 32 ∷ after_path f

abbrev after_code : Fault → List ℕ
after_code f = word f.code ++ 32 ∷ after_word f

pub returns-in_default : goal.returns-in_default
returns-in_default c f is =
    absurd (has_parts _ (decimal (number f.code)) (after_code f) _ c.split_once.ensures.cases (number_clean f.code)
    is.text c.in_default.is)

pub returns-in_default-split_once : goal.returns-in_default-split_once
returns-in_default-split_once c f is =
    let code =
    parts_of _ (decimal (number f.code)) (after_code f) _ _ c.split_once.ensures.cases (number_clean f.code) is.text
    c.in-Some.is in
    absurd (has_parts _ (word f.code) (after_word f) _ c.split_once-2.ensures.cases (word_clean f.code) (sym code.1)
    c.in_default-split_once.is)

pub returns-in_default-split_once-2 : goal.returns-in_default-split_once-2
returns-in_default-split_once-2 c f is =
    let code =
    parts_of _ (decimal (number f.code)) (after_code f) _ _ c.split_once.ensures.cases (number_clean f.code) is.text
    c.in-Some.is in
    let word_of =
    parts_of _ (word f.code) (after_word f) _ _ c.split_once-2.ensures.cases (word_clean f.code) (sym code.1)
    c.in-Some-split_once.is in
    absurd (has_parts _ (field f.path) (after_path f) _ c.split_once-3.ensures.cases (field_clean f.path)
    (sym word_of.1) c.in_default-split_once-2.is)

pub returns-in_default-split_once-3 : goal.returns-in_default-split_once-3
returns-in_default-split_once-3 c f is =
    let code =
    parts_of _ (decimal (number f.code)) (after_code f) _ _ c.split_once.ensures.cases (number_clean f.code) is.text
    c.in-Some.is in
    let word_of =
    parts_of _ (word f.code) (after_word f) _ _ c.split_once-2.ensures.cases (word_clean f.code) (sym code.1)
    c.in-Some-split_once.is in
    let path =
    parts_of _ (field f.path) (after_path f) _ _ c.split_once-3.ensures.cases (field_clean f.path) (sym word_of.1)
    c.in-Some-split_once-2.is in
    absurd (has_parts _ (alg_field f.alg) (after_alg f) _ c.split_once-4.ensures.cases (alg_clean f.alg) (sym path.1)
    c.in_default-split_once-3.is)

pub returns-in_default-split_once-4 : goal.returns-in_default-split_once-4
returns-in_default-split_once-4 c f is =
    let code =
    parts_of _ (decimal (number f.code)) (after_code f) _ _ c.split_once.ensures.cases (number_clean f.code) is.text
    c.in-Some.is in
    let word_of =
    parts_of _ (word f.code) (after_word f) _ _ c.split_once-2.ensures.cases (word_clean f.code) (sym code.1)
    c.in-Some-split_once.is in
    let path =
    parts_of _ (field f.path) (after_path f) _ _ c.split_once-3.ensures.cases (field_clean f.path) (sym word_of.1)
    c.in-Some-split_once-2.is in
    let alg =
    parts_of _ (alg_field f.alg) (after_alg f) _ _ c.split_once-4.ensures.cases (alg_clean f.alg) (sym path.1)
    c.in-Some-split_once-3.is in
    absurd (has_parts _ (line_field f.line) (field f.detail) _ c.split_once-5.ensures.cases
    (line_clean f.line is.fault.line) (sym alg.1) c.in_default-split_once-4.is)

pub returns : goal.returns
returns c f is =
    let code =
    parts_of _ (decimal (number f.code)) (after_code f) _ _ c.split_once.ensures.cases (number_clean f.code) is.text
    c.in-Some.is in
    let word_of =
    parts_of _ (word f.code) (after_word f) _ _ c.split_once-2.ensures.cases (word_clean f.code) (sym code.1)
    c.in-Some-split_once.is in
    let path =
    parts_of _ (field f.path) (after_path f) _ _ c.split_once-3.ensures.cases (field_clean f.path) (sym word_of.1)
    c.in-Some-split_once-2.is in
    let alg =
    parts_of _ (alg_field f.alg) (after_alg f) _ _ c.split_once-4.ensures.cases (alg_clean f.alg) (sym path.1)
    c.in-Some-split_once-3.is in
    let line =
    parts_of _ (line_field f.line) (field f.detail) _ _ c.split_once-5.ensures.cases
    (line_clean f.line is.fault.line) (sym alg.1) c.in-Some-split_once-4.is in
    record { code = code.0; path = path.0; alg = alg.0; line = line.0; detail = line.1 }
