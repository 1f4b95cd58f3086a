-- Laws of the text: its room, its lines, the first line, and the limit. Assumes nothing.
use Prim.Native.Nat.{ℕ, zero, suc, ◌+◌, ◌*◌, ◌<◌, ◌≤◌}
use mathlib.Core.Path.{◌≡◌, refl, ◌∙◌}
use mathlib.Core.List.{List, [], ◌∷◌, ◌++◌, append_assoc}
use native.Mathlib.Numerals.{add-one}
use native.Mathlib.Omega.{arith}
use borrow.Author.Tests.{le-ltb, lt-ltb}
use lib.ListN.{length, get_or, length-append}
use Rattle.format.specs.Layout.{layout32, server}
use Rattle.format.specs.Refusal.{gives, refuses}
use Rattle.format.specs.Check.{counted, check_archive}
use Rattle.format.specs.Certify.{certify}
use Rattle.format.proofs.Laws.Calls.Accepted.{gives-inv, refuses-inv, certify-refuses}
use Rattle.text.specs.Decimal.{decimal}
use Rattle.text.proofs.Texts.{length_decimal}
use Rattle.listing.specs.declared.Title.{Title}
use Rattle.listing.specs.declared.Title.TheVariants.{Certified, Open, Refused}
use Rattle.listing.specs.Listing.{title, title_line, entry_line, first_lines, listing, printed}

-- ---- room

pub title_room : (t : Title) → length (title_line t) ≤ 31
title_room (Certified n) = omega (arith, length-append (decimal n) (10 ∷ []), length_decimal n)
title_room (Open n) = omega (arith, length-append (decimal n) (10 ∷ []), length_decimal n)
title_room (Refused n) = omega (arith, length-append (decimal n) (10 ∷ []), length_decimal n)

pub entry_room : (k v : ℕ) → length (entry_line k v) ≤ 42
entry_room k v = simp length-append (omega (arith, length_decimal k, length_decimal v))

pub lines_room : (ks vs : List ℕ) (n : ℕ) → length (first_lines ks vs n) ≤ 42 * n
unfolding first_lines
lines_room ks vs zero = omega arith
lines_room ks vs (suc n) =
    let k = get_or ks n 0 in
    let v = get_or vs n 0 in
    omega (arith, length-append (first_lines ks vs n) (entry_line k v), entry_room k v, lines_room ks vs n)

-- How much room the parts of the text take.
pub ruleset room = (length-append, length_decimal, title_room, entry_room, lines_room)

-- ---- lines

-- What is put behind nothing.
pub put-first : {x t l : List ℕ} → x ≡ t ++ l → t ≡ [] → x ≡ l
put-first e f = rw (e, f) refl

-- One line more.
pub line-more : (t : List ℕ) (ks vs : List ℕ) (i n : ℕ) {x y : List ℕ} {k v : ℕ} → n ≡ i + 1 → k ≡ get_or ks i 0 → v ≡ get_or vs i 0
    → y ≡ t ++ first_lines ks vs i → x ≡ y ++ entry_line k v → x ≡ t ++ first_lines ks vs n
unfolding first_lines
line-more t ks vs i n en ek ev ey ex = ex ∙ rw (ey, ek, ev, en, add-one i) (append_assoc t (first_lines ks vs i) _)

-- ---- the first line

module _ (s : List ℕ) where
  pub title-certified : (n : ℕ) → counted (certify layout32 server s) ≡ gives n → title s ≡ Certified n
  unfolding title
  title-certified n e = let (t, a) = gives-inv (certify layout32 server s) n e in rw (a, title)

  pub title-open : (q n : ℕ) → counted (certify layout32 server s) ≡ refuses q → counted (check_archive layout32 server s) ≡ gives n
      → title s ≡ Open n
  unfolding title
  title-open q n e f =
      let a = refuses-inv (certify layout32 server s) q e in
      let (t, b) = gives-inv (check_archive layout32 server s) n f in
      rw (a, title) (rw (b, title))

  pub title-refused : (r : ℕ) → counted (check_archive layout32 server s) ≡ refuses r → title s ≡ Refused r
  unfolding title
  title-refused r e =
      let a = refuses-inv (certify layout32 server s) r (certify-refuses layout32 server s r e) in
      let b = refuses-inv (check_archive layout32 server s) r e in
      rw (a, title) (rw (b, title))

  -- ---- the limit

  pub printed-too-long : 65536 < length s → title_line (Refused 1) ≡ printed s
  unfolding printed
  printed-too-long h = rw (lt-ltb 65536 (length s) h)

  pub printed-archive : length s ≤ 65536 → listing s ≡ printed s
  unfolding printed
  printed-archive h = rw (le-ltb 65536 (length s) h)
