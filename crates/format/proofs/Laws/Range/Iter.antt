-- The range iterator gives the range: on certified bytes, where the bounds do not cross, `RawRangeIter` gives the list's entries that match, in
-- order, and then nothing; where they cross, no entry matches. Assumes nothing.
use Prim.Native.Nat.{ℕ, zero, suc, ◌-◌, ◌*◌, ◌<◌}
use Rattle.std.specs.Prelude.{◌≡◌, Bool}
use Rattle.std.proofs.Math.Path.{refl, ap}
use Rattle.std.proofs.Common.{sym, ◌∙◌, eq-eqb, ne_eqb}
use Rattle.std.proofs.Math.Bool.{true, false}
use mathlib.Core.List.{List, [], ◌∷◌, append-nil}
use Rattle.std.proofs.Math.Option.{Option, none, some}
use native.Mathlib.Omega.{arith}
use Rattle.format.specs.declared.Entry.{Entry}
use Rattle.std.specs.declared.ops.Bound.{Bound}
use Rattle.std.specs.declared.ops.Bound.TheVariants.{Included, Excluded, Unbounded}
use Rattle.format.specs.Layout.{Layout, Limits, nested}
use Rattle.format.specs.Bytes.{le_at}
use Rattle.format.specs.RelPtr.{at, below, target, absent, Destination}
use Rattle.format.specs.Node.{Kind, leaf, inner, other, child, key_at, kind, leaf_count, slot}
use Rattle.format.specs.Check.{root, recorded}
use Rattle.format.specs.Entries.{list_at, list_of, list}
use Rattle.format.specs.Certify.{Above, Ascending}
use Rattle.format.specs.Range.{meets_lower, meets_upper, matches, select, crosses, range}
use Rattle.format.specs.RangeIter.{Frame, frame, RangeIter, along, along_child, seek_slots, seek_children, seek_body, seek, push, keep, onward}
use Rattle.format.specs.RangeIter.{ends, over, item, next_of, next, lower_stack, first_past, cleared, new_of, new, Yields, finished, yields}
use Rattle.format.specs.Accepted.{Rooted, Certified}
use Rattle.format.proofs.Laws.Range.List.{drop_to, take_to, past, Rises, lower-rises, past-rises, drop-none, drop_all, ascending-drop}
use Rattle.format.proofs.Laws.Range.List.{matches-none, select-ascending, crossed-fails, drop_past}
use Rattle.format.proofs.Laws.Range.Stack.{Full, Stack, bottom, upon, leftmost-stack, onward-stack, seek-stack}

-- Where the bounds cross, no entry of any list matches.
pub crossed-none : (lo hi : Bound ℕ) → crosses lo hi ≡ true → (l : List Entry) → select (matches lo hi) l ≡ []
crossed-none lo hi c [] = refl
crossed-none lo hi c (x ∷ xs) = rw (matches-none lo hi x (crossed-fails lo hi c x), select) (crossed-none lo hi c xs)

-- The loop to the first entry that passes gives the same for two kinds of notes, if `turn` turns one kind into the other.
module _ (L : Layout) (s : List ℕ) {A B : Type 0} (note : ℕ → ℕ → A → A) (note' : ℕ → ℕ → B → B) (turn : A → B)
    (turns : (p i : ℕ) (a : A) → turn (note p i a) ≡ note' p i (turn a)) (f : Entry → Bool) where
  child-turns : (go : ℕ → A → A) (go' : ℕ → B → B) → ((q : ℕ) (a : A) → turn (go q a) ≡ go' q (turn a)) → (g : ℕ) (a : A)
      → turn (along_child L s go g a) ≡ along_child L s go' g (turn a)
  unfolding along_child along
  child-turns go go' ih g a = by (absent L s g) (target L s g) refl refl
    where
      by : (b : Bool) (t : Destination) → absent L s g ≡ b → target L s g ≡ t → turn (along_child L s go g a) ≡ along_child L s go' g (turn a)
      by true t ea et = rw (ea, along_child)
      by false (at q) ea et = rw (ea, along_child, et) (ih q a)
      by false below ea et = rw (ea, along_child, et)

  slots-turn : (p n i : ℕ) (a : A) → turn (seek_slots L s note f p n i a) ≡ seek_slots L s note' f p n i (turn a)
  unfolding seek_slots
  slots-turn p zero i a = refl
  slots-turn p (suc n) i a = by (f (slot L s p i)) refl (slots-turn p n (suc i) a)
    where
      by : (b : Bool) → f (slot L s p i) ≡ b → turn (seek_slots L s note f p n (suc i) a) ≡ seek_slots L s note' f p n (suc i) (turn a)
          → turn (seek_slots L s note f p (suc n) i a) ≡ seek_slots L s note' f p (suc n) i (turn a)
      by true eb ih = rw (eb, seek_slots) (turns p i a)
      by false eb ih = rw (eb, seek_slots) ih

  children-turn : (go : ℕ → A → A) (go' : ℕ → B → B) → ((q : ℕ) (a : A) → turn (go q a) ≡ go' q (turn a)) → (p n i : ℕ) (a : A)
      → turn (seek_children L s note f go p n i a) ≡ seek_children L s note' f go' p n i (turn a)
  unfolding seek_children
  children-turn go go' ih p zero i a = child-turns go go' ih (child L p i) a
  children-turn go go' ih p (suc n) i a = by (f (slot L s p i)) refl (children-turn go go' ih p n (suc i) a)
    where
      by : (b : Bool) → f (slot L s p i) ≡ b → turn (seek_children L s note f go p n (suc i) a) ≡ seek_children L s note' f go' p n (suc i) (turn a)
          → turn (seek_children L s note f go p (suc n) i a) ≡ seek_children L s note' f go' p (suc n) i (turn a)
      by true eb ih' = rw (eb, seek_children, ← (turns p i a)) (child-turns go go' ih (child L p i) (note p i a))
      by false eb ih' = rw (eb, seek_children) ih'

  seek-turns : (d q : ℕ) (a : A) → turn (seek L s note f d q a) ≡ seek L s note' f d q (turn a)
  unfolding seek seek_body
  seek-turns zero q a = refl
  seek-turns (suc d) q a = by (kind L s q) (seek-turns d)
    where
      by : (k : Kind) → ((q : ℕ) (a : A) → turn (seek L s note f d q a) ≡ seek L s note' f d q (turn a))
          → turn (seek_body L s note f (seek L s note f d) q k a) ≡ seek_body L s note' f (seek L s note' f d) q k (turn a)
      by leaf ih = slots-turn q (leaf_count L s q) 0 a
      by inner ih = children-turn (seek L s note f d) (seek L s note' f d) ih q L.entries 0 a
      by other ih = refl

module _ (L : Layout) where
  -- The position of an entry's key, by that of its value.
  abbrev key_position : Entry → ℕ
  key_position e = e.position.0 - 8 * L.entries

  -- The position of a list's first key.
  abbrev first_key : List Entry → Option ℕ
  first_key [] = none
  first_key (e ∷ l) = some (key_position e)

  -- The position of the key on top of a stack.
  abbrev top_key : List Frame → Option ℕ
  top_key [] = none
  top_key (f ∷ st) = some (key_at L f.node f.index)

module _ (L : Layout) (s : List ℕ) where
  -- Of a slot, the two agree.
  slot-key : (p i : ℕ) → key_position L (slot L s p i) ≡ key_at L p i
  unfolding slot
  slot-key p i = omega arith

  -- Slots with one key position have one key.
  same_key : (p i q j : ℕ) → key_at L p i ≡ key_at L q j → (slot L s p i).key ≡ (slot L s q j).key
  unfolding slot
  same_key p i q j e = ap (le_at 8 s) e

  -- The key on top of a stack is the first that the stack has to give.
  top-first : (fuel : ℕ) {st : List Frame} {l : List Entry} → Stack L s fuel st l → top_key L st ≡ first_key L l
  top-first fuel bottom = refl
  top-first fuel (upon {p} {i} d h f t z) = ap {B = Option ℕ} some (sym (slot-key p i))

module _ (L : Layout) (M : Limits) (s : List ℕ) where
  -- The steps of `next` from the stack, with no end, give these entries.
  data Runs : List Frame → List Entry → Type 0 where
    done : Runs [] []
    gave : {p i : ℕ} {st : List Frame} {l : List Entry} → Runs (onward L s (nested M) p i (kind L s p) st) l → Runs (frame p i ∷ st) (slot L s p i ∷ l)

  -- What a stack has to give, the steps give.
  stack-runs : 0 < L.entries → (l : List Entry) (st : List Frame) → Stack L s (nested M) st l → Runs st l
  stack-runs pos [] st bottom = done
  stack-runs pos (x ∷ xs) st (upon {p} {i} {st = st'} {l = l} d h f t z) = gave (stack-runs pos xs _ (onward-stack L s (nested M) pos d p i st' l h f t z))

  -- A slot's key does not stand at the end if the end is a key of the entries that follow, which are above it.
  not_end : (f : Entry → Bool) (p i : ℕ) {st : List Frame} {l : List Entry} → Runs st l → Above (slot L s p i).key l
      → ends L s (first_key L (drop_to f l)) p i ≡ false
  not_end f p i done a = refl
  not_end f p i (gave {p = q} {i = j} {l = l} r) a = by (f (slot L s q j)) refl (not_end f p i r a.1)
    where
      by : (b : Bool) → f (slot L s q j) ≡ b → ends L s (first_key L (drop_to f l)) p i ≡ false
          → ends L s (first_key L (drop_to f (slot L s q j ∷ l))) p i ≡ false
      by true eb ih =
          let ne : key_at L p i ≡ key_position L (slot L s q j) → ⊥ = λ e. let k = same_key L s p i q j (e ∙ slot-key L s q j) in omega arith in
          rw (eb, drop_to) (ne_eqb (key_at L p i) (key_position L (slot L s q j)) ne)
      by false eb ih = rw (eb, drop_to) ih

  -- With the end at the first key past the upper bound, the iterator gives the entries before that one.
  runs-yields : (hi : Bound ℕ) {st : List Frame} {l : List Entry} → Runs st l → Ascending l
      → Yields L M s (record { stack = st; end = first_key L (drop_to (past hi) l) }) (take_to (meets_upper hi) l)
  unfolding next_of
  runs-yields hi done a = finished refl
  runs-yields hi (gave {p} {i} {st} {l} r) a = by (meets_upper hi x) refl (runs-yields hi r a.1)
    where
      x : Entry
      x = slot L s p i

      it : RangeIter
      it = record { stack = onward L s (nested M) p i (kind L s p) st; end = first_key L (drop_to (past hi) l) }

      by : (b : Bool) → meets_upper hi x ≡ b → Yields L M s it (take_to (meets_upper hi) l)
          → Yields L M s (record { stack = frame p i ∷ st; end = first_key L (drop_to (past hi) (x ∷ l)) }) (take_to (meets_upper hi) (x ∷ l))
      by true eb y =
          let e : next_of L M s (frame p i ∷ st) (first_key L (drop_to (past hi) l)) ≡ item x it = rw (not_end (past hi) p i r a.0, next_of) in
          rw (eb, drop_to, take_to) (yields it e y)
      by false eb y =
          let e : next_of L M s (frame p i ∷ st) (some (key_position L x)) ≡ over =
          rw (eq-eqb (key_at L p i) (key_position L x) (sym (slot-key L s p i)), next_of) in
          rw (eb, drop_to, take_to) (finished e)

  -- An iterator that is over gives nothing.
  over-empty : {it : RangeIter} {es : List Entry} → next L M s it ≡ over → Yields L M s it es → es ≡ []
  over-empty e (finished e') = refl
  over-empty e (yields it' e' y) = cc

  -- A stack is cleared only where the iterator gives nothing anyway.
  cleared-yields : (st : List Frame) (end : Option ℕ) (es : List Entry) → Yields L M s (record { stack = st; end = end }) es
      → Yields L M s (record { stack = cleared L M s st end; end = end }) es
  unfolding next_of
  cleared-yields [] end es y = y
  cleared-yields (f ∷ st) end es y = by (ends L s end f.node f.index) refl es y
    where
      by : (b : Bool) → ends L s end f.node f.index ≡ b → (es : List Entry) → Yields L M s (record { stack = f ∷ st; end = end }) es
          → Yields L M s (record { stack = cleared L M s (f ∷ st) end; end = end }) es
      by true eb es y =
          let e : next_of L M s (f ∷ st) end ≡ over = rw (eb, next_of) in
          rw (eb, cleared, over-empty e y) (finished refl)
      by false eb es y = rw (eb, cleared) y

  -- The archive's root is full, and gives the list.
  module _ (C : Certified L M s) (R : Rooted L M s) (h : 0 < recorded L s) where
    root-full : Full L s (nested M) R.pos
    root-full = record { lo = 0; hi = root L s; n = recorded L s; holds = R.valid.holds; solid = C.firm h R }

    list-is : list L M s ≡ list_at L s (nested M) R.pos
    unfolding list
    list-is = by (recorded L s) refl
      where
        by : (r : ℕ) → recorded L s ≡ r → list_of L M s r ≡ list_at L s (nested M) R.pos
        by zero e = absurd (omega arith)
        by (suc r) e = rw R.leads

    -- The two searches from the root, for a test that rises.
    seek-root : (f : Entry → Bool) → Rises f → Stack L s (nested M) (seek L s (push L s) f (nested M) R.pos []) (drop_to f (list L M s))
    seek-root f rises = rw (list-is, ← (append-nil (drop_to f (list_at L s (nested M) R.pos))))
        (seek-stack L s (nested M) f rises (nested M) (nested M) (omega arith) (omega arith) R.pos [] [] (root-full, rw list-is at C.ascending) bottom)

    seek-top : (f : Entry → Bool) → Rises f → seek L s (keep L s) f (nested M) R.pos none ≡ first_key L (drop_to f (list L M s))
    seek-top f rises =
        sym (seek-turns L s (push L s) (keep L s) (top_key L) (λ p i a. refl) f (nested M) R.pos []) ∙ top-first L s (nested M) (seek-root f rises)

    -- `init_stack_for_lower`: the stack has to give the list from the first entry on that meets the lower bound.
    lower-stack : 0 < L.entries → (lo : Bound ℕ) → Stack L s (nested M) (lower_stack L M s lo) (drop_to (meets_lower lo) (list L M s))
    unfolding lower_stack along
    lower-stack pos (Included k) = rw R.leads (seek-root (meets_lower (Included k)) (lower-rises (Included k)))
    lower-stack pos (Excluded k) = rw R.leads (seek-root (meets_lower (Excluded k)) (lower-rises (Excluded k)))
    lower-stack pos Unbounded = rw (R.leads, drop-none (list L M s), list-is, ← (append-nil (list_at L s (nested M) R.pos)))
        (leftmost-stack L s (nested M) pos true (nested M) (nested M) (omega arith) (omega arith) R.pos [] [] root-full bottom)

    -- `find_first_past_upper`: the position of the first key past the upper bound.
    first_past_lem : (hi : Bound ℕ) → first_past L M s hi ≡ first_key L (drop_to (past hi) (list L M s))
    unfolding first_past along
    first_past_lem (Included k) = rw R.leads (seek-top (past (Included k)) (past-rises (Included k)))
    first_past_lem (Excluded k) = rw R.leads (seek-top (past (Excluded k)) (past-rises (Excluded k)))
    first_past_lem Unbounded = rw (drop_all (list L M s))

    -- The iterator that `new` makes where the record's count is above 0.
    start-yields : 0 < L.entries → (lo hi : Bound ℕ) → crosses lo hi ≡ false
        → Yields L M s (record { stack = cleared L M s (lower_stack L M s lo) (first_past L M s hi); end = first_past L M s hi })
        (select (matches lo hi) (list L M s))
    start-yields pos lo hi c =
        rw (select-ascending lo hi (list L M s) C.ascending)
        (cleared-yields (lower_stack L M s lo) (first_past L M s hi) _
        (rw (first_past_lem hi, ← (drop_past lo hi c (list L M s)))
        (runs-yields hi (stack-runs pos (drop_to (meets_lower lo) (list L M s)) _ (lower-stack pos lo))
        (ascending-drop (meets_lower lo) (list L M s) C.ascending))))

  -- On certified bytes, where the bounds do not cross, the iterator gives the range: every entry that matches, in order, and then nothing.
  pub range-yields : 0 < L.entries → Certified L M s → (lo hi : Bound ℕ) → crosses lo hi ≡ false → Yields L M s (new L M s lo hi) (range L M s lo hi)
  unfolding new range list next_of
  range-yields pos C lo hi c = by (recorded L s) refl
    where
      by : (r : ℕ) → recorded L s ≡ r → Yields L M s (new_of L M s r lo hi) (select (matches lo hi) (list_of L M s r))
      by zero e = finished refl
      by (suc r) e =
          let h : 0 < recorded L s = omega arith in
          rw e at (start-yields C (C.archive.rooted h) h pos lo hi c)
