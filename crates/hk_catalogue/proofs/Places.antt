-- The place of an id among ids that rise, and what is done there.
use Rattle.std.proofs.Common.{◌≡◌, ℕ, zero, suc, ◌+◌, ◌<◌, ◌≤◌, ◌==◌, true, false, not, ◌||◌, cond, List, [], ◌∷◌, ◌++◌, take, drop, length, map, filter, nat_lt, get_or, refl, sym, ◌∙◌, ap, arith, add-one}
use Rattle.std.specs.List.{insert, remove}
use Rattle.std.specs.List.Sorted.{IsPartitionPoint, IsNonDecreasingBy}
use Rattle.std.specs.Ordering.{nat_cmp}
use Rattle.std.specs.Cmp.{nat_cmp_is}
use Rattle.std.specs.FinMap.{put}
use Rattle.std.specs.FinMap.Entries.{by_order}
use Rattle.std.specs.declared.cmp.Ordering.TheVariants.{Less, Greater}
use Rattle.std.proofs.Math.Bool.{or-false}
use Rattle.std.proofs.lemmas.Bool.{ltb-true, ltb-false, eqb-false, ne_eqb, or_parts}
use Rattle.std.proofs.lemmas.List.{map-append, take-map, drop-map, length-map}
use Rattle.std.proofs.Math.ListN.{get_or-map}
use Rattle.std.proofs.lemmas.List.Sums.{sum_by-append, sum_by-take-drop, sum_by-drop_more}
use Rattle.hk_catalogue.specs.Refusals.{SongLengths, has_id, words_in}
use Rattle.hk_catalogue.specs.Entries.{entry_pairs, AreAbove, AreRising, Splits}
use Rattle.hk_catalogue.specs.declared.entry.Entry.{Entry}

pub map-insert : {X Y : Type 0} (f : X → Y) (xs : List X) (i : ℕ) (x : X) → map f (insert xs i x) ≡ insert (map f xs) i (f x)
map-insert f xs i x =
    map-append f (take i xs) (x ∷ drop i xs)
    ∙ ap (λ front. front ++ f x ∷ map f (drop i xs)) (sym (take-map f i xs))
    ∙ ap (λ back. take i (map f xs) ++ f x ∷ back) (sym (drop-map f i xs))

pub map-remove : {X Y : Type 0} (f : X → Y) (xs : List X) (i : ℕ) → map f (remove xs i) ≡ remove (map f xs) i
map-remove f xs i =
    map-append f (take i xs) (drop (suc i) xs)
    ∙ ap (λ front. front ++ map f (drop (suc i) xs)) (sym (take-map f i xs))
    ∙ ap (λ back. take i (map f xs) ++ back) (sym (drop-map f (suc i) xs))

above-at : (id : ℕ) (entries : List Entry) (j : ℕ) (d : Entry) → AreAbove id (entry_pairs entries) → j < length entries → id < (get_or entries j d).id
above-at id [] j d above low = absurd (omega arith)
above-at id (e ∷ es) zero d above low = above.0
above-at id (e ∷ es) (suc j) d above low = above-at id es j d above.1 (omega arith)

pub non_decreasing : (entries : List Entry) → AreRising (entry_pairs entries) → IsNonDecreasingBy (λ entry. entry.id) entries
non_decreasing [] rising i j d upto low = absurd (omega arith)
non_decreasing (e ∷ es) rising zero zero d upto low = omega arith
non_decreasing (e ∷ es) rising zero (suc j) d upto low = let h = above-at e.id es j d rising.0 (omega arith) in omega arith
non_decreasing (e ∷ es) rising (suc i) zero d upto low = absurd (omega arith)
non_decreasing (e ∷ es) rising (suc i) (suc j) d upto low = non_decreasing es rising.1 i j d (omega arith) (omega arith)

pub splits : (entries : List Entry) (id place : ℕ) → IsPartitionPoint (λ entry. nat_lt entry.id id ≡ true) (λ entry. nat_lt entry.id id ≡ false) entries place
    → place ≤ length entries → Splits (entry_pairs entries) id place
splits [] id place point within = omega arith
splits (e ∷ es) id zero point within = ltb-false e.id id (point.1 0 e (omega arith) (omega arith))
splits (e ∷ es) id (suc place) point within = (
  ltb-true e.id id (point.0 0 e (omega arith) (omega arith)),
  splits es id place (λ k d low below. point.0 (suc k) d (omega arith) (omega arith), λ k d low below. point.1 (suc k) d (omega arith) (omega arith)) (omega arith),
)

-- an id that is no higher isn't there
absent : {A : Type 0} (low id : ℕ) (es : List (ℕ × A)) → AreAbove low es → id ≤ low → has_id es id ≡ false
absent low id [] above upto = refl
absent low id (e ∷ es) above upto =
    ap (λ b. b || has_id es id) (ne_eqb e.0 id (λ same. let no : ⊥ = omega (arith, above.0) in no)) ∙ absent low id es above.1 upto

-- the entry at the place has the id, or none has
pub has-here : (entries : List Entry) (id place : ℕ) (entry : Entry) → Splits (entry_pairs entries) id place → AreRising (entry_pairs entries)
    → place < length entries → entry ≡ get_or entries place entry → (entry.id == id) ≡ has_id (entry_pairs entries) id
has-here [] id place entry here rising within is = absurd (omega arith)
has-here (e ∷ es) id zero entry here rising within is =
    ap (λ f. f.id == id) is ∙ sym (ap (λ b. (e.id == id) || b) (absent e.id id (entry_pairs es) rising.0 here) ∙ or-false (e.id == id))
has-here (e ∷ es) id (suc place) entry here rising within is =
    has-here es id place entry here.1 rising.1 (omega arith) is
    ∙ sym (ap (λ b. b || has_id (entry_pairs es) id) (ne_eqb e.id id (λ same. let no : ⊥ = omega (arith, here.0) in no)))

pub has-none : (entries : List Entry) (id place : ℕ) → Splits (entry_pairs entries) id place → length entries ≤ place → false ≡ has_id (entry_pairs entries) id
has-none [] id place here behind = refl
has-none (e ∷ es) id zero here behind = absurd (omega arith)
has-none (e ∷ es) id (suc place) here behind =
    has-none es id place here.1 (omega arith)
    ∙ sym (ap (λ b. b || has_id (entry_pairs es) id) (ne_eqb e.id id (λ same. let no : ⊥ = omega (arith, here.0) in no)))

-- a new id at its place
pub put-at : {A : Type 0} (es : List (ℕ × A)) (id : ℕ) (n : A) (place : ℕ) → Splits es id place → has_id es id ≡ false → insert es place (id, n) ≡ put nat_cmp id n es
put-at [] id n zero here new = refl
put-at [] id n (suc place) here new = absurd (omega arith)
put-at (e ∷ es) id n zero here new =
    let other : e.0 ≡ id → ⊥ = eqb-false e.0 id (or_parts (e.0 == id) (has_id es id) new).0 in
    let lower : id < e.0 = omega (arith, here, other) in
    ap (λ o. by_order o ((id, n) ∷ e ∷ es) ((e.0, n) ∷ es) (e ∷ put nat_cmp id n es)) (nat_cmp_is id e.0 Less lower)
put-at (e ∷ es) id n (suc place) here new =
    ap (λ xs. e ∷ xs) (put-at es id n place here.1 (or_parts (e.0 == id) (has_id es id) new).1)
    ∙ ap (λ o. by_order o ((id, n) ∷ e ∷ es) ((e.0, n) ∷ es) (e ∷ put nat_cmp id n es)) (nat_cmp_is id e.0 Greater here.0)

-- entries of higher ids all stay
kept : {A : Type 0} (low id : ℕ) (es : List (ℕ × A)) → AreAbove low es → id ≤ low → filter (λ entry. not (entry.0 == id)) es ≡ es
kept low id [] above upto = refl
kept low id (e ∷ es) above upto =
    ap (λ b. cond (not b) (e ∷ filter (λ entry. not (entry.0 == id)) es) (filter (λ entry. not (entry.0 == id)) es)) (ne_eqb e.0 id (λ same. let no : ⊥ = omega (arith, above.0) in no))
    ∙ ap (λ xs. e ∷ xs) (kept low id es above.1 upto)

-- an id that is there goes at its place
pub gone-at : {A : Type 0} (es : List (ℕ × A)) (id place : ℕ) → Splits es id place → AreRising es → has_id es id ≡ true
    → remove es place ≡ filter (λ entry. not (entry.0 == id)) es
gone-at [] id place here rising there = absurd (cc)
gone-at (e ∷ es) id zero here rising there =
    let stays = filter (λ entry. not (entry.0 == id)) es in
    let same : (e.0 == id) ≡ true = sym (or-false (e.0 == id)) ∙ ap (λ b. (e.0 == id) || b) (sym (absent e.0 id es rising.0 here)) ∙ there in
    sym (ap (λ b. cond (not b) (e ∷ stays) stays) same ∙ kept e.0 id es rising.0 here)
gone-at (e ∷ es) id (suc place) here rising there =
    let stays = filter (λ entry. not (entry.0 == id)) es in
    let other : (e.0 == id) ≡ false = ne_eqb e.0 id (λ same. let no : ⊥ = omega (arith, here.0) in no) in
    ap (λ xs. e ∷ xs) (gone-at es id place here.1 rising.1 (ap (λ b. b || has_id es id) (sym other) ∙ there))
    ∙ sym (ap (λ b. cond (not b) (e ∷ stays) stays) other)

-- where an id that is there stands, an entry is
pub within-at : {A : Type 0} (es : List (ℕ × A)) (id place : ℕ) → Splits es id place → AreRising es → has_id es id ≡ true → place < length es
within-at [] id place here rising there = absurd (cc)
within-at (e ∷ es) id zero here rising there = omega arith
within-at (e ∷ es) id (suc place) here rising there =
    let other : (e.0 == id) ≡ false = ne_eqb e.0 id (λ same. let no : ⊥ = omega (arith, here.0) in no) in
    let rest = within-at es id place here.1 rising.1 (ap (λ b. b || has_id es id) (sym other) ∙ there) in
    omega arith

above-lower : {A : Type 0} (low id : ℕ) (es : List (ℕ × A)) → AreAbove id es → low ≤ id → AreAbove low es
above-lower low id [] above upto = tt
above-lower low id (e ∷ es) above upto = (omega (arith, above.0), above-lower low id es above.1 upto)

above-insert : {A : Type 0} (low : ℕ) (es : List (ℕ × A)) (place : ℕ) (e : ℕ × A) → AreAbove low es → low < e.0 → AreAbove low (insert es place e)
above-insert low [] zero e above lower = (lower, tt)
above-insert low [] (suc place) e above lower = (lower, tt)
above-insert low (f ∷ es) zero e above lower = (lower, above)
above-insert low (f ∷ es) (suc place) e above lower = (above.0, above-insert low es place e above.1 lower)

pub rising-insert : {A : Type 0} (es : List (ℕ × A)) (id : ℕ) (n : A) (place : ℕ) → Splits es id place → has_id es id ≡ false → AreRising es → AreRising (insert es place (id, n))
rising-insert [] id n zero here new rising = (tt, tt)
rising-insert [] id n (suc place) here new rising = (tt, tt)
rising-insert (e ∷ es) id n zero here new rising =
    let other : e.0 ≡ id → ⊥ = eqb-false e.0 id (or_parts (e.0 == id) (has_id es id) new).0 in
    let lower : id < e.0 = omega (arith, here, other) in
    ((lower, above-lower id e.0 es rising.0 (omega arith)), rising)
rising-insert (e ∷ es) id n (suc place) here new rising =
    (above-insert e.0 es place (id, n) rising.0 here.0, rising-insert es id n place here.1 (or_parts (e.0 == id) (has_id es id) new).1 rising.1)

above-remove : {A : Type 0} (low : ℕ) (es : List (ℕ × A)) (place : ℕ) → AreAbove low es → AreAbove low (remove es place)
above-remove low [] zero above = tt
above-remove low [] (suc place) above = tt
above-remove low (e ∷ es) zero above = above.1
above-remove low (e ∷ es) (suc place) above = (above.0, above-remove low es place above.1)

pub rising-remove : {A : Type 0} (es : List (ℕ × A)) (place : ℕ) → AreRising es → AreRising (remove es place)
rising-remove [] zero rising = tt
rising-remove [] (suc place) rising = tt
rising-remove (e ∷ es) zero rising = rising.1
rising-remove (e ∷ es) (suc place) rising = (above-remove e.0 es place rising.0, rising-remove es place rising.1)

-- the words of one entry and of the others
pub words-gone : (entries : List Entry) (place : ℕ) (entry : Entry) → place < length entries → entry ≡ get_or entries place entry
    → words_in (entry_pairs entries) ≡ entry.number + words_in (entry_pairs (remove entries place))
words-gone entries place entry low is =
    let pair : Entry → ℕ × ℕ = λ e. (e.id, e.number) in
    let words : ℕ × ℕ → ℕ = λ e. e.1 in
    let es : SongLengths = entry_pairs entries in
    let count : length es ≡ length entries = length-map {B = ℕ × ℕ} entries pair in
    let here : words (get_or es place (pair entry)) ≡ entry.number = ap words (get_or-map pair entries place entry) ∙ ap (λ e. e.number) (sym is) in
    let next : words_in (drop (place + 1) es) ≡ words_in (drop (suc place) es) = ap (λ n. words_in (drop n es)) (add-one place) in
    let parts : words_in (remove es place) ≡ words_in (take place es) + words_in (drop (suc place) es) = sum_by-append words (take place es) (drop (suc place) es) in
    let all : words_in (entry_pairs (remove entries place)) ≡ words_in (remove es place) = ap words_in (map-remove pair entries place) in
    omega (arith, sum_by-take-drop words es place, sum_by-drop_more words es place (pair entry) (omega arith))
