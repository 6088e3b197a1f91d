-- The test for UTF-8.
use Rattle.bag_text.proofs.Common.{List, false, ℕ, ◌≡◌, false_from_ne_true, IsUtf8-from_is_utf8, is_utf8-from_IsUtf8}
use Rattle.bag_text.proofs.Common.{IsUtf8, is_utf8}

pub is_utf8_fails : (bytes : List ℕ) → ¬ (IsUtf8 bytes) → is_utf8 bytes ≡ false
is_utf8_fails bytes h = false_from_ne_true (is_utf8 bytes) (λ e. h (IsUtf8-from_is_utf8 bytes e))

pub ruleset utf8_texts = (is_utf8_fails, is_utf8-from_IsUtf8)
