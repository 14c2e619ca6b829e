-- Steps of a player one after another, as what they read and write.
use Rattle.std.proofs.Common.{◌≡◌, ℕ, ◌+◌, ◌<◌, ◌≤◌, List, [], ◌∷◌, ◌++◌, length, take, drop, get_or, sym, subst, ◌∙◌, ap, arith, append_assoc, append-nil, add-one, drop-cons, Option}
use Rattle.std.proofs.lemmas.List.{take-append-drop, take_more, take_rest, length-take-le}
use Rattle.std.specs.Prelude.{slice_range}
use Rattle.std.proofs.Math.Seq.{take-append-add}
use Rattle.hk_base.specs.Devices.{Took, Wrote}
use Rattle.hk_base.proofs.Taking.{Took-append, Wrote-append, Wrote-nothing}
use Rattle.hk_base.specs.declared.plain.Trouble.{Trouble}
use Rattle.hk_spec_runs.specs.Outcome.{Task, Trades}
use Rattle.hk_player.specs.Playing.{Adds, StopsBehind, TearsBehind}
use Rattle.hk_player.specs.Pieces.{StopsAt, IsTorn, HasLeft, HasTorn}

module _ (t : Task) where
  pub Adds-nothing : (r text : List ℕ) (w : Option (List ℕ)) → Adds t r text r (text ++ []) w w
  Adds-nothing r text w = ([], ap (λ b. t.text b r) (append-nil text) ∙ sym (append-nil (t.text text r)), Wrote-nothing w)

  pub Adds-append : (r text r' mid r'' long : List ℕ) (w x y : Option (List ℕ)) → Adds t r text r' mid w x → Adds t r' mid r'' long x y → Adds t r text r'' long w y
  Adds-append r text r' mid r'' long w x y first second = (
    first.0 ++ second.0,
    second.1 ∙ ap (λ o. o ++ second.0) first.1 ∙ append_assoc (t.text text r) first.0 second.0,
    Wrote-append first.0 second.0 w x y first.2 second.2,
  )

  -- bytes that complete nothing
  pub Adds-listened : (r text r' mid long : List ℕ) (w x : Option (List ℕ)) → Adds t r text r' mid w x → t.text long r' ≡ t.text mid r' → Adds t r text r' long w x
  Adds-listened r text r' mid long w x adds same = (adds.0, same ∙ adds.1, adds.2)

  -- a byte behind what was played meets a fault
  pub stops : (r text r' mid : List ℕ) (x : ℕ) (more : List ℕ) (trouble : Trouble) (w y : Option (List ℕ)) → Adds t r text r' mid w y
      → StopsBehind t r' mid x trouble → StopsAt t r text (mid ++ x ∷ more) trouble w y
  stops r text r' mid x more trouble w y adds behind = ((behind more).0, (r', (adds.0, (behind more).1 ∙ adds.1, adds.2)))

  -- at a byte behind what was played writing fails
  pub tears : (r text r' mid : List ℕ) (x : ℕ) (more : List ℕ) (w y z : Option (List ℕ)) → Adds t r text r' mid w y
      → TearsBehind t r' mid x y z → IsTorn t r text (mid ++ x ∷ more) w z
  tears r text r' mid x more w y z adds behind =
      let front = behind.1 more in (
        behind.0,
        (
          adds.0 ++ front.0,
          front.1,
          front.2 ∙ ap (λ o. o ++ (front.0 ++ front.1)) adds.1 ∙ shuffled (t.text text r) adds.0 front.0 front.1,
          Wrote-append adds.0 front.0 w y z adds.2 front.3,
        ),
      )
    where
      shuffled : (a b c d : List ℕ) → (a ++ b) ++ (c ++ d) ≡ a ++ ((b ++ c) ++ d)
      shuffled a b c d = simp append_assoc

-- a piece around one of its bytes
pub around : (text piece : List ℕ) (i : ℕ) → i < length piece
    → text ++ piece ≡ (text ++ take i piece) ++ get_or piece i 0 ∷ drop (i + 1) piece
around text piece i inside =
    ap (λ p. text ++ p) (sym (take-append-drop i piece))
    ∙ ap (λ rest. text ++ (take i piece ++ rest)) (rw (add-one, drop-cons piece i 0))
    ∙ sym (append_assoc text (take i piece) (get_or piece i 0 ∷ drop (i + 1) piece))

-- a text with the front of a line, the rest of the line, and more behind it
pub regrouped : (text front missing more : List ℕ) → (text ++ (front ++ missing)) ++ more ≡ text ++ (front ++ (missing ++ more))
regrouped text front missing more = simp append_assoc

-- one byte more
pub further : (text piece : List ℕ) (i : ℕ) → i < length piece
    → text ++ take (i + 1) piece ≡ (text ++ take i piece) ++ get_or piece i 0 ∷ []
further text piece i inside =
    ap (λ front. text ++ front) (take_more piece i 0 inside)
    ∙ sym (append_assoc text (take i piece) (get_or piece i 0 ∷ []))

-- a front of a piece, and more of it
pub on_from : (text piece : List ℕ) (at n : ℕ) → at ≤ length piece
    → text ++ take (at + n) piece ≡ (text ++ take at piece) ++ take n (slice_range piece at (length piece))
on_from text piece at n inside =
    let front : length (take at piece) ≡ at = length-take-le at piece inside in
    ap (λ p. text ++ p)
    (ap (λ k. take (k + n) piece) (sym front) ∙ ap (take (length (take at piece) + n)) (sym (take-append-drop at piece)) ∙ take-append-add (take at piece) (drop at piece) n
    ∙ ap (λ rest. take at piece ++ take n rest) (sym (take_rest piece at)))
    ∙ sym (append_assoc text (take at piece) (take n (slice_range piece at (length piece))))

-- a player that listened to more of a piece: what it has played, and what was written for it
pub listened_on : (t k : Task) (HasPlayed : List ℕ → List ℕ → Type 0) (r text r' piece : List ℕ) (at n : ℕ) (w x : Option (List ℕ)) → k ≡ t → at ≤ length piece
    → Adds t r text r' (text ++ take at piece) w x
    → HasPlayed r' ((text ++ take at piece) ++ take n (slice_range piece at (length piece)))
    × (k.text ((text ++ take at piece) ++ take n (slice_range piece at (length piece))) r' ≡ k.text (text ++ take at piece) r')
    → HasPlayed r' (text ++ take (at + n) piece) × Adds t r text r' (text ++ take (at + n) piece) w x
listened_on t k HasPlayed r text r' piece at n w x same inside adds heard =
    let start = text ++ take at piece in
    let more = take n (slice_range piece at (length piece)) in
    let on : text ++ take (at + n) piece ≡ start ++ more = on_from text piece at n inside in
    let quiet : t.text (start ++ more) r' ≡ t.text start r' = subst (λ (k : Task). k.text (start ++ more) r' ≡ k.text start r') same heard.1 in (
      subst (λ (b : List ℕ). HasPlayed r' b) (sym on) heard.0,
      Adds-listened t r text r' start (text ++ take (at + n) piece) w x adds (ap (λ b. t.text b r') on ∙ quiet),
    )

-- byte i of a piece is taken, by a player of the same task
module _ (t k : Task) (same : k ≡ t) (r text r' piece : List ℕ) (i : ℕ) (inside : i < length piece) (w x : Option (List ℕ))
    (adds : Adds t r text r' (text ++ take i piece) w x) where
  pub stops_in : (trouble : Trouble) → StopsBehind k r' (text ++ take i piece) (get_or piece i 0) trouble → StopsAt t r text (text ++ piece) trouble w x
  stops_in trouble behind =
      let mid = text ++ take i piece in
      subst (λ (whole : List ℕ). StopsAt t r text whole trouble w x) (sym (around text piece i inside))
      (stops t r text r' mid (get_or piece i 0) (drop (i + 1) piece) trouble w x adds
      (subst (λ (k : Task). StopsBehind k r' mid (get_or piece i 0) trouble) same behind))

  pub tears_in : (y : Option (List ℕ)) → TearsBehind k r' (text ++ take i piece) (get_or piece i 0) x y → IsTorn t r text (text ++ piece) w y
  tears_in y behind =
      let mid = text ++ take i piece in
      subst (λ (whole : List ℕ). IsTorn t r text whole w y) (sym (around text piece i inside))
      (tears t r text r' mid (get_or piece i 0) (drop (i + 1) piece) w x y adds
      (subst (λ (k : Task). TearsBehind k r' mid (get_or piece i 0) x y) same behind))

  pub goes_in : (r'' : List ℕ) (y : Option (List ℕ)) → Adds k r' (text ++ take i piece) r'' ((text ++ take i piece) ++ get_or piece i 0 ∷ []) x y
      → Adds t r text r'' (text ++ take (i + 1) piece) w y
  goes_in r'' y went =
      let mid = text ++ take i piece in
      let long = mid ++ get_or piece i 0 ∷ [] in
      subst (λ (b : List ℕ). Adds t r text r'' b w y) (sym (further text piece i inside))
      (Adds-append t r text r' mid r'' long w x y adds (subst (λ (k : Task). Adds k r' mid r'' long x y) same went))

-- A piece behind all bytes that were read so far.
module _ (t : Task) (r b o piece : List ℕ) (x y z : Option (List ℕ)) (u v w : Option (List ℕ))
    (took : Took b x y) (read : Took piece y z) (wrote : Wrote o u v) (so_far : o ≡ t.text b r) where
  pub played_piece : (r' : List ℕ) (P : List ℕ → List ℕ → Type 0) → Adds t r b r' (b ++ piece) v w → ((o : List ℕ) → o ≡ t.text (b ++ piece) r' → P (b ++ piece) o) → Trades x z u w P
  played_piece r' P adds so = (
    b ++ piece,
    o ++ adds.0,
    Took-append b piece x y z took read,
    Wrote-append o adds.0 u v w wrote adds.2,
    so (o ++ adds.0) (ap (λ all. all ++ adds.0) so_far ∙ sym adds.1),
  )

  pub stopped_piece : (trouble : Trouble) → StopsAt t r b (b ++ piece) trouble v w → Trades x z u w (HasLeft t trouble)
  stopped_piece trouble stops = played_piece stops.1.0 (HasLeft t trouble) stops.1.1 (λ all is. (stops.1.0, stops.0, is))

  pub torn_piece : IsTorn t r b (b ++ piece) v w → Trades x z u w (HasTorn t)
  torn_piece torn = (
    b ++ piece,
    o ++ torn.1.0,
    Took-append b piece x y z took read,
    Wrote-append o torn.1.0 u v w wrote torn.1.3,
    (torn.0, torn.1.1, append_assoc o torn.1.0 torn.1.1 ∙ ap (λ all. all ++ (torn.1.0 ++ torn.1.1)) so_far ∙ sym torn.1.2),
  )

pub some_read : (n : ℕ) (xs : List ℕ) → 1 ≤ n → n ≤ length xs → 1 ≤ length (take n xs)
some_read n xs some within = omega (arith, some, length-take-le n xs within)
