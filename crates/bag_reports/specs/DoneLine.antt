-- The closing line of a part that is done.
use Rattle.std.specs.Prelude.{ℕ, ◌+◌, ◌<◌, ◌^◌, ◌≡◌, ◌++◌, ◌∷◌, ◌&&◌, List, Option, None, Some, Bool, true}
use Rattle.std.specs.Prelude.{codes, decimal, false, length, not}
use Rattle.std.specs.Prelude.{IsUtf8, ⊤}
use Rattle.std.specs.Char.{is_ascii_hexdigit, is_ascii_uppercase}
use Rattle.std.specs.List.{list_all}
use Rattle.std.specs.Option.{option_copied}
use Rattle.bag_text.specs.Bytes.{Line}
use Rattle.bag_faults.specs.Part.{IsPart, Part}
use Rattle.bag_reports.specs.declared.done_line.DoneLine.{DoneLine}
use Rattle.bag_reports.specs.declared.done_line.Numbers.{Numbers}
use Rattle.bag_reports.specs.declared.done_line.Subject.{Subject}
use Rattle.bag_walk.specs.PartRuns.{clashes_words, done_line, profile_words}

-- the closing line, with its end, of a part in which so many faults were found
abbrev pub line_for : Subject → Part → ℕ → Line
line_for subject part n =
    done_line subject.name part subject.listed subject.clashes subject.profile n

-- the line, with its end
abbrev pub line_of : DoneLine → Line
line_of said = line_for said.subject said.part said.count

abbrev pub is_sum_digit : ℕ → Bool
is_sum_digit c = is_ascii_hexdigit c && not (is_ascii_uppercase c)

-- a SHA-256 in hex: 64 digits in lower case
pub record IsSum (sum : List ℕ) : Type 0 where
  pub size : length sum ≡ 64
  pub digits : list_all is_sum_digit sum ≡ true

-- that of a profile, if there is one
abbrev pub IsProfileSum : Option (List ℕ) → Type 0
IsProfileSum None = ⊤
IsProfileSum (Some sum) = IsSum sum

-- what closing lines say: a name in UTF-8, numbers that fit, and a SHA-256
pub record IsSubject (subject : Subject) : Type 0 where
  pub name : IsUtf8 subject.name
  pub files : subject.listed.files < 2 ^ 64
  pub bytes : subject.listed.bytes < 2 ^ 128
  pub profile : IsProfileSum subject.profile

-- what every such line says: also one of 65,536 parts at the most, and a number that fits
pub record IsSaid (said : DoneLine) : Type 0 where
  pub subject : IsSubject said.subject
  pub part : IsPart said.part
  pub count : said.count < 2 ^ 64

-- the text is the line, with its end, that says so
pub record IsDoneLineOf (text : List ℕ) (said : DoneLine) : Type 0 where
  pub said_so : IsSaid said
  pub text_is : text ≡ line_of said

-- what stands behind the name and a space
abbrev pub behind_name : DoneLine → List ℕ
behind_name said =
    codes "part " ++ (decimal (said.part.number + 1) ++ (codes " of " ++ (decimal said.part.of
    ++ (codes " done, files: " ++ (decimal said.subject.listed.files
    ++ (codes ", bytes: " ++ (decimal said.subject.listed.bytes
    ++ (clashes_words said.subject.clashes ++ (profile_words said.subject.profile
    ++ (codes ", faults: " ++ (decimal said.count ++ codes "\n")))))))))))

pub record AreNumbersOf (text : List ℕ) (said : DoneLine) : Type 0 where
  pub said_so : IsSaid said
  pub text_is : text ≡ behind_name said

-- what stands behind the last comma
abbrev pub behind_comma : ℕ → List ℕ
behind_comma n = codes " faults: " ++ (decimal n ++ codes "\n")

-- the same behind the comma after the word clashes, or behind the one after the bytes
abbrev pub behind_clashes : Option (List ℕ) → ℕ → List ℕ
behind_clashes None n = behind_comma n
behind_clashes (Some sum) n = codes " profile: " ++ (sum ++ 44 ∷ behind_comma n)

abbrev pub behind_bytes : Bool → Option (List ℕ) → ℕ → List ℕ
behind_bytes false sum n = behind_clashes sum n
behind_bytes true sum n = codes " clashes," ++ behind_clashes sum n

-- these are the numbers that it says, and what it says of what was asked for
pub record AreRead (numbers : Numbers) (said : DoneLine) : Type 0 where
  pub part : numbers.part ≡ said.part
  pub listed : numbers.listed ≡ said.subject.listed
  pub clashes : numbers.clashes ≡ said.subject.clashes
  pub profile : option_copied numbers.profile ≡ said.subject.profile
  pub count : numbers.count ≡ said.count
