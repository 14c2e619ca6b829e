-- Bytes of a station's stream within its record, whatever they are.
use Rattle.std.proofs.Common.{true, ◌≡◌, ℕ, ◌+◌, ◌-◌, ◌<◌, ◌≤◌, List, [], ◌∷◌, ◌++◌, length, map, refl, sym, ◌∙◌, ap, subst, arith, length-append, append-nil, append_assoc, false, Bool, cond}
use Rattle.std.specs.Prelude.{◌||◌, ◌&&◌, not, nat_lt}
use Rattle.std.proofs.lemmas.Bool.{le-leb, ne_eqb}
use Rattle.hk_spec_streams.specs.Records.{STATION, Arrival, ForStation, arrivals, arrival_after, open_bytes}
use Rattle.hk_spec_streams.proofs.GrowingRecords.{arrivals-append, open_bytes-append}
use Rattle.hk_records.specs.Part.{IsPart, IsPartUnlessWhole, HasOwner, has_bad_head, left_ahead}
use Rattle.hk_records.specs.Reader.{HasRead, bytes_ahead}
use Rattle.hk_records.specs.declared.part.Owner.{Owner}
use Rattle.hk_records.specs.declared.part.Owner.TheVariants as owners
use Rattle.hk_records.specs.declared.part.Part.TheVariants as parts
use Rattle.hk_records.specs.declared.reader.RecordReader.{RecordReader}
use Rattle.hk_records.proofs.Bodies.{some_left}
use Rattle.hk_records.proofs.Reading.{begins_there, some_open, stays_good}

-- the reader with so many bytes more, of which the open record lacks so many
abbrev pub ahead : RecordReader → ℕ → ℕ → ℕ → RecordReader
ahead reader number count left = record reader { taken = reader.taken + count; part = parts.Body (owners.Station number) left }

neither : (a b x y z : Bool) → a ≡ false → b ≡ false → ((a && x) || ((b && y) && z)) ≡ false
neither a b x y z first second = ap (λ t. (t && x) || ((b && y) && z)) first ∙ ap (λ t. (t && y) && z) second

no_items : (xs : List ℕ) → length xs ≡ 0 → xs ≡ []
no_items [] none = refl
no_items (x ∷ xs) none = absurd (omega (arith, none))

-- one byte
module _ (reader : RecordReader) (number left : ℕ) (text : List ℕ) (b : ℕ) (h : HasRead reader text)
    (body : reader.part ≡ parts.Body (owners.Station number) left) (more : 1 < left) (room : reader.taken < reader.limit) where
  open_is : IsPart (parts.Body (owners.Station number) left) (open_bytes text)
  open_is = subst (λ part. IsPart part (open_bytes text)) body h.part

  bytes_are : open_bytes text ≡ STATION ∷ number ∷ open_is.0 ∷ open_is.1 ∷ open_is.2
  bytes_are = open_is.3

  fine : has_bad_head reader.stations (open_bytes text ++ b ∷ []) ≡ false
  fine = ap (λ bytes. has_bad_head reader.stations (bytes ++ b ∷ [])) bytes_are
      ∙ neither _ _ false true (not (nat_lt number reader.stations)) (ne_eqb (length (STATION ∷ number ∷ open_is.0 ∷ open_is.1 ∷ open_is.2 ++ b ∷ [])) 1 (λ same. omega (arith, same)))
      (ne_eqb (length (STATION ∷ number ∷ open_is.0 ∷ open_is.1 ∷ open_is.2 ++ b ∷ [])) 2 (λ same. omega (arith, same)))

  rest_is : IsPartUnlessWhole (parts.Body (owners.Station number) (left - 1)) (open_bytes text ++ b ∷ [])
  rest_is =
      let payload : List ℕ = open_is.2 ++ b ∷ [] in
      let long : length (open_is.2 ++ b ∷ []) ≡ length open_is.2 + 1 = length-append open_is.2 (b ∷ []) in
      subst (λ bytes. IsPartUnlessWhole (parts.Body (owners.Station number) (left - 1)) (bytes ++ b ∷ [])) (sym bytes_are)
      (some_left (owners.Station number) open_is.0 open_is.1 (left - 1) payload (omega (arith, more)) (omega (arith, long, open_is.4, more)))

  pub arrives : arrivals (text ++ b ∷ []) ≡ arrivals text ++ ForStation number b ∷ []
  arrives = arrivals-append text b ∙ ap (λ bytes. arrivals text ++ arrival_after bytes b) bytes_are
      ∙ ap (λ t. arrivals text ++ cond t (ForStation number b ∷ []) []) (le-leb 4 (length (STATION ∷ number ∷ open_is.0 ∷ open_is.1 ∷ open_is.2)) (omega arith))

  pub reads_one : HasRead (ahead reader number 1 (left - 1)) (text ++ b ∷ [])
  reads_one =
      let long : length (text ++ b ∷ []) ≡ length text + 1 = length-append text (b ∷ []) in
      let longer : length (open_bytes text ++ b ∷ []) ≡ length (open_bytes text) + 1 = length-append (open_bytes text) (b ∷ []) in
      let some : open_bytes text ≡ [] → ⊥ = some_open reader.part (open_bytes text) h.part (λ letter. let odd = sym letter ∙ body in cc) in
      record {
        taken = omega (arith, h.taken, long);
        within = omega (arith, room);
        none_met = h.none_met;
        no_fault = stays_good reader.stations reader.limit text b h.no_fault (omega (arith, h.taken, room)) fine;
        begun = λ still. begins_there _ _ (open_bytes text ++ b ∷ []) reader.begun (length (text ++ b ∷ [])) (open_bytes-append text b) still
            (omega (arith, h.begun some, long, longer));
        part = subst (IsPart (parts.Body (owners.Station number) (left - 1))) (sym (open_bytes-append text b)) rest_is;
        known = subst (HasOwner reader.stations) body h.known;
      }

-- no byte
reads_none : (reader : RecordReader) (owner : Owner) (left : ℕ) (text : List ℕ) → HasRead reader text → reader.part ≡ parts.Body owner left
    → HasRead (record reader { taken = reader.taken + 0; part = parts.Body owner (left - 0) }) (text ++ [])
reads_none reader owner left text h body =
    let same : reader.taken + 0 ≡ reader.taken = omega arith in
    let all : left - 0 ≡ left = omega arith in
    let kept : HasRead (record reader { part = parts.Body owner left }) (text ++ []) =
    subst (λ part. HasRead (record reader { part = part }) (text ++ [])) body (subst (HasRead reader) (sym (append-nil text)) h) in
    subst (λ n. HasRead (record reader { taken = reader.taken + 0; part = parts.Body owner n }) (text ++ [])) (sym all)
    (subst (λ n. HasRead (record reader { taken = n; part = parts.Body owner left }) (text ++ [])) (sym same) kept)

-- bytes that end before the record does, and within the limit
pub reads_all : (bytes : List ℕ) (reader : RecordReader) (number left : ℕ) (text : List ℕ) → HasRead reader text
    → reader.part ≡ parts.Body (owners.Station number) left → length bytes < left → reader.taken + length bytes ≤ reader.limit
    → HasRead (ahead reader number (length bytes) (left - length bytes)) (text ++ bytes) × (arrivals (text ++ bytes) ≡ arrivals text ++ map (ForStation number) bytes)
reads_all [] reader number left text h body inside room =
    (reads_none reader (owners.Station number) left text h body, ap arrivals (append-nil text) ∙ sym (append-nil (arrivals text)))
reads_all (b ∷ bytes) reader number left text h body inside room =
    let one : HasRead (ahead reader number 1 (left - 1)) (text ++ b ∷ []) = reads_one reader number left text b h body (omega arith) (omega arith) in
    let rest = reads_all bytes (ahead reader number 1 (left - 1)) number (left - 1) (text ++ b ∷ []) one refl (omega arith) (omega arith) in
    let count : reader.taken + 1 + length bytes ≡ reader.taken + length (b ∷ bytes) = omega arith in
    let still : left - 1 - length bytes ≡ left - length (b ∷ bytes) = omega arith in
    let again : List Arrival = map (ForStation number) bytes in
    let P : ℕ → ℕ → List ℕ → Type 0 = λ n m longer. HasRead (record reader { taken = n; part = parts.Body (owners.Station number) m }) longer in (
      subst (λ n. P n (left - length (b ∷ bytes)) (text ++ b ∷ bytes)) count
          (subst (λ m. P (reader.taken + 1 + length bytes) m (text ++ b ∷ bytes)) still
          (subst (P (reader.taken + 1 + length bytes) (left - 1 - length bytes)) (append_assoc text (b ∷ []) bytes) rest.0)),
      ap arrivals (sym (append_assoc text (b ∷ []) bytes)) ∙ rest.1 ∙ ap (λ came. came ++ again) (arrives reader number left text b h body (omega arith) (omega arith))
          ∙ append_assoc (arrivals text) (ForStation number b ∷ []) again,
    )

-- as many as the reader tells, or fewer
module _ (reader : RecordReader) (left : ℕ) (text bytes : List ℕ) (h : HasRead reader text) (few : length bytes ≤ bytes_ahead reader) where
  some_ahead : (owner : Owner) → reader.part ≡ parts.Body owner left → length bytes ≤ left_ahead (parts.Body owner left)
  some_ahead owner body = let same : left_ahead reader.part ≡ left_ahead (parts.Body owner left) = ap left_ahead body in omega (arith, few, same)

  pub all_arrive : (number : ℕ) → reader.part ≡ parts.Body (owners.Station number) left → arrivals (text ++ bytes) ≡ arrivals text ++ map (ForStation number) bytes
  all_arrive number body =
      let some : IsPart (parts.Body (owners.Station number) left) (open_bytes text) = subst (λ part. IsPart part (open_bytes text)) body h.part in
      (reads_all bytes reader number left text h body (omega (arith, some_ahead (owners.Station number) body, some.5)) (omega (arith, few, h.within))).1

  pub all_read : (owner : Owner) → reader.part ≡ parts.Body owner left
      → HasRead (record reader { taken = reader.taken + length bytes; part = parts.Body owner (left - length bytes) }) (text ++ bytes)
  all_read owners.Operator body =
      let none : length bytes ≡ 0 = omega (arith, some_ahead owners.Operator body) in
      let P : ℕ → List ℕ → Type 0 = λ n more. HasRead (record reader { taken = reader.taken + n; part = parts.Body owners.Operator (left - n) }) (text ++ more) in
      subst (λ n. P n bytes) (sym none) (subst (P 0) (sym (no_items bytes none)) (reads_none reader owners.Operator left text h body))
  all_read (owners.Station number) body =
      let some : IsPart (parts.Body (owners.Station number) left) (open_bytes text) = subst (λ part. IsPart part (open_bytes text)) body h.part in
      (reads_all bytes reader number left text h body (omega (arith, some_ahead (owners.Station number) body, some.5)) (omega (arith, few, h.within))).0
