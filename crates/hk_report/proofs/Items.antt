-- Items and lists, each known from its text.
use Rattle.std.proofs.Common.{◌≡◌, ℕ, ◌<◌, ◌≤◌, List, [], ◌∷◌, ◌++◌, refl, sym, ◌∙◌, ap, subst, append_assoc, arith, codes, ◌⊎◌, inl, inr}
use Rattle.std.specs.Fmt.{decimal}
use Rattle.std.specs.List.{AllByRecursion}
use Rattle.std.proofs.lemmas.List.{flat_map_more}
use Rattle.std.proofs.lemmas.Grind.{flat_map-append}
use Rattle.hk_base.specs.declared.plain.Match.{Match}
use Rattle.hk_spec_lines.specs.Lines.{NEWLINE, match_text, list_text}
use Rattle.hk_report.specs.Pieces.{further_items}
use Rattle.hk_report.specs.Reports.{ItemFits}
use Rattle.hk_report.specs.LineReading.{IsDigit, IsCut, GoesOn, Differs, StopsBefore, Numeral, Field, ItemField, AreFurther, IsList, MOST_32}
use Rattle.hk_report.proofs.Numbers.{split_number, not_cut, heads, tails}
use Rattle.hk_report.proofs.Stopping.{FollowsNumber, field_follows, another_byte, stops_among, stops_behind_front, still_cut}

regrouped : (a b c d e r : List ℕ) → a ++ b ++ c ++ d ++ e ++ r ≡ a ++ (b ++ (c ++ (d ++ (e ++ r))))
regrouped a b c d e r = simp append_assoc

-- an item and more, its parts set out one behind another
item_parts : (m : Match) (r : List ℕ) → match_text m ++ r ≡ decimal m.id ++ (64 ∷ decimal m.start ++ (126 ∷ decimal m.errors ++ r))
item_parts m r = regrouped (decimal m.id) (codes "@") (decimal m.start) (codes "~") (decimal m.errors) r

same_match : (m n : Match) → m.id ≡ n.id → m.start ≡ n.start → m.errors ≡ n.errors → m ≡ n
same_match m n a b c =
    let by : ℕ → ℕ → ℕ → Match = λ i s e. record { id = i; start = s; errors = e } in
    ap (λ i. by i m.start m.errors) a ∙ ap (λ s. by n.id s m.errors) b ∙ ap (λ e. by n.id n.start e) c

pub other_cut : (c : ℕ) (r : List ℕ) → (c < 48) ⊎ (57 < c) → IsCut (c ∷ r)
other_cut c r (inl below) = λ d. let low : 48 ≤ c = d.0 in omega arith
other_cut c r (inr above) = λ d. let high : c < 58 = d.1 in omega arith

-- an item and what follows it, each is known from the text
pub split_item : (m n : Match) (r s : List ℕ) → ItemFits m → ItemFits n → IsCut r → IsCut s → match_text m ++ r ≡ match_text n ++ s → (m ≡ n) × (r ≡ s)
split_item m n r s fits fits' cr cs e =
    let errors_of : Match → List ℕ → List ℕ = λ k t. decimal k.errors ++ t in
    let start_of : Match → List ℕ → List ℕ = λ k t. decimal k.start ++ (126 ∷ errors_of k t) in
    let id : (m.id ≡ n.id) × (64 ∷ start_of m r ≡ 64 ∷ start_of n s) =
    split_number m.id n.id (64 ∷ start_of m r) (64 ∷ start_of n s) (omega (arith, fits.id)) (omega (arith, fits'.id))
    (other_cut 64 (start_of m r) (inr (omega arith))) (other_cut 64 (start_of n s) (inr (omega arith))) (sym (item_parts m r) ∙ e ∙ item_parts n s) in
    let start : (m.start ≡ n.start) × (126 ∷ errors_of m r ≡ 126 ∷ errors_of n s) =
    split_number m.start n.start (126 ∷ errors_of m r) (126 ∷ errors_of n s) (omega (arith, fits.start)) (omega (arith, fits'.start))
    (other_cut 126 (errors_of m r) (inr (omega arith))) (other_cut 126 (errors_of n s) (inr (omega arith))) (tails 64 64 (start_of m r) (start_of n s) id.1) in
    let errors : (m.errors ≡ n.errors) × (r ≡ s) =
    split_number m.errors n.errors r s (omega (arith, fits.errors)) (omega (arith, fits'.errors)) cr cs (tails 126 126 (errors_of m r) (errors_of n s) start.1) in
    (same_match m n id.0 start.0 errors.0, errors.1)

further_cut : (items : List Match) (r : List ℕ) → IsCut r → IsCut (further_items items ++ r)
further_cut [] r cut = cut
further_cut (m ∷ ms) r cut = other_cut 32 (match_text m ++ further_items ms ++ r) (inl (omega arith))

newline_cut : IsCut NEWLINE
newline_cut = other_cut 10 [] (inl (omega arith))

pub not_digit : (c : ℕ) → (c < 48) ⊎ (57 < c) → IsDigit c → ⊥
not_digit c other = other_cut c [] other

pub further_follows : FollowsNumber AreFurther
further_follows = record {
  sample = NEWLINE;
  member = ([], tt, refl);
  cut = λ t h. subst IsCut (sym h.2) (further_cut h.0 NEWLINE newline_cut);
}

pub errors_follows : FollowsNumber (Field (codes "~") MOST_32 AreFurther)
errors_follows = field_follows 126 [] MOST_32 AreFurther (not_digit 126 (inr (omega arith))) further_follows

pub start_follows : FollowsNumber (Field (codes "@") MOST_32 (Field (codes "~") MOST_32 AreFurther))
start_follows = field_follows 64 [] MOST_32 (Field (codes "~") MOST_32 AreFurther) (not_digit 64 (inr (omega arith))) errors_follows

-- an item behind a word, and further items
abbrev AreItems : List ℕ → List ℕ → Type 0
AreItems word t = (m : Match) × (items : List Match) × ItemFits m × AllByRecursion ItemFits items × (t ≡ word ++ (match_text m ++ (further_items items ++ NEWLINE)))

items_of : (word t : List ℕ) → ItemField word AreFurther t → AreItems word t
items_of word t h =
    let id : Numeral MOST_32 (Field (codes "@") MOST_32 (Field (codes "~") MOST_32 AreFurther)) h.0 = h.2 in
    let start : Numeral MOST_32 (Field (codes "~") MOST_32 AreFurther) id.4.0 = id.4.2 in
    let errors : Numeral MOST_32 AreFurther start.4.0 = start.4.2 in
    let m : Match = record { id = id.0; start = start.0; errors = errors.0 } in (
      m,
      errors.4.0,
      record { id = omega (arith, id.2); start = omega (arith, start.2); errors = omega (arith, errors.2) },
      errors.4.1,
      h.1 ∙ ap (λ x. word ++ x) (
          id.3 ∙ ap (λ x. decimal id.0 ++ x) (id.4.1 ∙ ap (λ x. 64 ∷ x) (start.3 ∙ ap (λ x. decimal start.0 ++ x) (start.4.1 ∙ ap (λ x. 126 ∷ x) (errors.3 ∙ ap (λ x. decimal errors.0 ++ x) errors.4.2))))
          ∙ sym (item_parts m (further_items errors.4.0 ++ NEWLINE))),
    )

item_of : (word t : List ℕ) → AreItems word t → ItemField word AreFurther t
item_of word t h =
    let m : Match = h.0 in
    let further : List ℕ = further_items h.1 ++ NEWLINE in (
      decimal m.id ++ (64 ∷ decimal m.start ++ (126 ∷ decimal m.errors ++ further)),
      h.4 ∙ ap (λ x. word ++ x) (item_parts m further),
      (
        m.id,
        64 ∷ decimal m.start ++ (126 ∷ decimal m.errors ++ further),
        omega (arith, h.2.id),
        refl,
        (
          decimal m.start ++ (126 ∷ decimal m.errors ++ further),
          refl,
          (
            m.start,
            126 ∷ decimal m.errors ++ further,
            omega (arith, h.2.start),
            refl,
            (decimal m.errors ++ further, refl, (m.errors, further, omega (arith, h.2.errors), refl, (h.1, h.3, refl))),
          ),
        ),
      ),
    )

pub item_list : (t : List ℕ) → ItemField [] AreFurther t → IsList t
item_list t h =
    let parts : AreItems [] t = items_of [] t h in
    (parts.0 ∷ parts.1, (parts.2, parts.3), parts.4 ∙ sym (append_assoc (match_text parts.0) (further_items parts.1) NEWLINE))

pub item_further : (t : List ℕ) → ItemField (codes " ") AreFurther t → AreFurther t
item_further t h =
    let parts : AreItems (codes " ") t = items_of (codes " ") t h in
    (parts.0 ∷ parts.1, (parts.2, parts.3), parts.4 ∙ ap (λ x. 32 ∷ x) (sym (append_assoc (match_text parts.0) (further_items parts.1) NEWLINE)))

list_cases : (t : List ℕ) (items : List Match) → AllByRecursion ItemFits items → t ≡ list_text items ++ NEWLINE → (t ≡ codes "none\n") ⊎ ItemField [] AreFurther t
list_cases t [] fits e = inl e
list_cases t (m ∷ ms) fits e = inr (item_of [] t (m, ms, fits.0, fits.1, e ∙ append_assoc (match_text m) (further_items ms) NEWLINE))

further_cases : (t : List ℕ) (items : List Match) → AllByRecursion ItemFits items → t ≡ further_items items ++ NEWLINE → (t ≡ NEWLINE) ⊎ ItemField (codes " ") AreFurther t
further_cases t [] fits e = inl e
further_cases t (m ∷ ms) fits e = inr (item_of (codes " ") t (m, ms, fits.0, fits.1, e ∙ ap (λ x. 32 ∷ x) (append_assoc (match_text m) (further_items ms) NEWLINE)))

other_heads : (c d : ℕ) (a b : List ℕ) → d < c → c ∷ a ≡ d ∷ b → ⊥
other_heads c d a b less e = let same : c ≡ d = heads c d a b e in omega arith

space_is_no_newline : (a : List ℕ) → 32 ∷ a ≡ NEWLINE → ⊥
space_is_no_newline a e = other_heads 32 10 a [] (omega arith) e

-- which lists begin as a text does
pub none_if_n : (text rest : List ℕ) → text ≡ 110 ∷ rest → (t : List ℕ) → GoesOn text t → IsList t → t ≡ codes "none\n"
none_if_n text rest e t on h =
    let begun : (r : List ℕ) × (t ≡ 110 ∷ r) = subst (λ x. GoesOn x t) e on in
    elim (list_cases t h.0 h.1 h.2) [
      | inl none ↦ none
      | inr item ↦
          let parts : AreItems [] t = items_of [] t item in
          let m : Match = parts.0 in
          let digits : t ≡ decimal m.id ++ (64 ∷ decimal m.start ++ (126 ∷ decimal m.errors ++ (further_items parts.1 ++ NEWLINE))) = parts.4 ∙ item_parts m (further_items parts.1 ++ NEWLINE) in
          absurd (not_cut m.id _ (omega (arith, parts.2.id)) (subst IsCut (sym begun.1 ∙ digits) (other_cut 110 begun.0 (inr (omega arith)))))
    ]

pub item_if_no_n : (text : List ℕ) → Differs 110 text → (t : List ℕ) → GoesOn text t → IsList t → ItemField [] AreFurther t
item_if_no_n text other t on h =
    elim (list_cases t h.0 h.1 h.2) [ inl none ↦ absurd (another_byte 110 text t _ other on none) | inr item ↦ item ]

pub item_if_space : (text rest : List ℕ) → text ≡ 32 ∷ rest → (t : List ℕ) → GoesOn text t → AreFurther t → ItemField (codes " ") AreFurther t
item_if_space text rest e t on h =
    let begun : (r : List ℕ) × (t ≡ 32 ∷ r) = subst (λ x. GoesOn x t) e on in
    elim (further_cases t h.0 h.1 h.2) [
      | inl newline ↦ absurd (space_is_no_newline begun.0 (sym begun.1 ∙ newline))
      | inr item ↦ item
    ]

pub newline_if_no_space : (text : List ℕ) → Differs 32 text → (t : List ℕ) → GoesOn text t → AreFurther t → t ≡ NEWLINE
newline_if_no_space text other t on h =
    elim (further_cases t h.0 h.1 h.2) [ inl newline ↦ newline | inr item ↦ absurd (another_byte 32 text t _ other on item.1) ]

-- items before further ones
pub all_fit-append : (a b : List Match) → AllByRecursion ItemFits a → AllByRecursion ItemFits b → AllByRecursion ItemFits (a ++ b)
all_fit-append [] b p q = q
all_fit-append (m ∷ a) b p q = (p.0, all_fit-append a b p.1 q)

pub further_after : (items : List Match) → AllByRecursion ItemFits items → (r : List ℕ) → AreFurther r → AreFurther (further_items items ++ r)
further_after items fits r h = (
  items ++ h.0,
  all_fit-append items h.0 fits h.1,
  ap (λ x. further_items items ++ x) h.2 ∙ sym (append_assoc (further_items items) (further_items h.0) NEWLINE) ∙ ap (λ x. x ++ NEWLINE) (sym (flat_map-append (λ m. codes " " ++ match_text m) items h.0)),
)

-- two texts of a first item and further ones, each behind a space
split_further : (m n : Match) (a b : List Match) (r s : List ℕ) → ItemFits m → ItemFits n → IsCut r → IsCut s → further_items (m ∷ a) ++ r ≡ further_items (n ∷ b) ++ s
    → (m ≡ n) × (further_items a ++ r ≡ further_items b ++ s)
split_further m n a b r s fits fits' cr cs e =
    split_item m n (further_items a ++ r) (further_items b ++ s) fits fits' (further_cut a r cr) (further_cut b s cs)
    (sym (append_assoc (match_text m) (further_items a) r) ∙ tails 32 32 _ _ e ∙ append_assoc (match_text n) (further_items b) s)

-- what comes behind the same items
rest_of : (items others : List Match) (r : List ℕ) → AllByRecursion ItemFits items → AllByRecursion ItemFits others → IsCut r → further_items items ++ r ≡ further_items others ++ NEWLINE → AreFurther r
rest_of [] others r fits fits' cut e = (others, fits', e)
rest_of (m ∷ ms) [] r fits fits' cut e = absurd (space_is_no_newline (match_text m ++ further_items ms ++ r) e)
rest_of (m ∷ ms) (n ∷ ns) r fits fits' cut e = rest_of ms ns r fits.1 fits'.1 cut (split_further m n ms ns r NEWLINE fits.0 fits'.0 cut newline_cut e).1

pub further_rest : (items : List Match) → AllByRecursion ItemFits items → (r : List ℕ) → IsCut r → AreFurther (further_items items ++ r) → AreFurther r
further_rest items fits r cut h = rest_of items h.0 r fits h.1 cut h.2

-- lists with one text are one list
same_further : (a b : List Match) → AllByRecursion ItemFits a → AllByRecursion ItemFits b → further_items a ++ NEWLINE ≡ further_items b ++ NEWLINE → a ≡ b
same_further [] [] fits fits' e = refl
same_further [] (n ∷ b) fits fits' e = absurd (space_is_no_newline (match_text n ++ further_items b ++ NEWLINE) (sym e))
same_further (m ∷ a) [] fits fits' e = absurd (space_is_no_newline (match_text m ++ further_items a ++ NEWLINE) e)
same_further (m ∷ a) (n ∷ b) fits fits' e =
    let both : (m ≡ n) × (further_items a ++ NEWLINE ≡ further_items b ++ NEWLINE) = split_further m n a b NEWLINE NEWLINE fits.0 fits'.0 newline_cut newline_cut e in
    let first : m ≡ n = both.0 in
    let further : a ≡ b = same_further a b fits.1 fits'.1 both.1 in
    cc

none_is_no_item : (m : Match) (a : List Match) → ItemFits m → codes "none\n" ≡ list_text (m ∷ a) ++ NEWLINE → ⊥
none_is_no_item m a fits e =
    not_cut m.id _ (omega (arith, fits.id))
    (subst IsCut (e ∙ append_assoc (match_text m) (further_items a) NEWLINE ∙ item_parts m (further_items a ++ NEWLINE)) (other_cut 110 (codes "one\n") (inr (omega arith))))

pub same_list : (a b : List Match) → AllByRecursion ItemFits a → AllByRecursion ItemFits b → list_text a ++ NEWLINE ≡ list_text b ++ NEWLINE → a ≡ b
same_list [] [] fits fits' e = refl
same_list [] (n ∷ b) fits fits' e = absurd (none_is_no_item n b fits'.0 e)
same_list (m ∷ a) [] fits fits' e = absurd (none_is_no_item m a fits.0 (sym e))
same_list (m ∷ a) (n ∷ b) fits fits' e =
    let both : (m ≡ n) × (further_items a ++ NEWLINE ≡ further_items b ++ NEWLINE) =
    split_item m n (further_items a ++ NEWLINE) (further_items b ++ NEWLINE) fits.0 fits'.0 (further_cut a NEWLINE newline_cut) (further_cut b NEWLINE newline_cut)
    (sym (append_assoc (match_text m) (further_items a) NEWLINE) ∙ e ∙ append_assoc (match_text n) (further_items b) NEWLINE) in
    let first : m ≡ n = both.0 in
    let further : a ≡ b = same_further a b fits.1 fits'.1 both.1 in
    cc

-- further items so far, and one more
pub one_further : (items : List Match) (m : Match) (text rest after : List ℕ) → text ≡ further_items items ++ rest → rest ≡ codes " " ++ match_text m ++ after → text ≡ further_items (items ++ m ∷ []) ++ after
one_further items m text rest after e found =
    let behind_space : Match → List ℕ = λ k. codes " " ++ match_text k in
    e ∙ ap (λ x. further_items items ++ x) found ∙ sym (append_assoc (further_items items) (behind_space m) after) ∙ ap (λ x. x ++ after) (flat_map_more behind_space [] items m)

-- a text that goes wrong behind further items, in an item or in the line's end
behind_items : (items : List Match) (text rest left : List ℕ) → AllByRecursion ItemFits items → text ≡ further_items items ++ rest → IsCut rest → StopsBefore AreFurther rest left → StopsBefore AreFurther text left
behind_items items text rest left fits e cut s =
    stops_behind_front AreFurther AreFurther (further_items items) text rest left (further_after items fits) (λ t on h. further_rest items fits t (still_cut rest t cut on) h) e s

pub in_item : (items : List Match) (text rest left : List ℕ) → AllByRecursion ItemFits items → text ≡ further_items items ++ rest → IsCut rest → (r : List ℕ) × (rest ≡ 32 ∷ r)
    → StopsBefore (ItemField (codes " ") AreFurther) rest left → StopsBefore AreFurther text left
in_item items text rest left fits e cut space_next s =
    behind_items items text rest left fits e cut (stops_among (ItemField (codes " ") AreFurther) AreFurther rest left item_further (item_if_space rest space_next.0 space_next.1) s)

pub in_line_end : (items : List Match) (text rest left : List ℕ) → AllByRecursion ItemFits items → text ≡ further_items items ++ rest → IsCut rest → Differs 32 rest
    → StopsBefore (λ t. t ≡ NEWLINE) rest left → StopsBefore AreFurther text left
in_line_end items text rest left fits e cut no_space s =
    behind_items items text rest left fits e cut (stops_among (λ t. t ≡ NEWLINE) AreFurther rest left (λ t end. ([], tt, end)) (newline_if_no_space rest no_space) s)

-- a text that goes wrong in a list
pub in_none : (text left : List ℕ) → (r : List ℕ) × (text ≡ 110 ∷ r) → StopsBefore (λ t. t ≡ codes "none\n") text left → StopsBefore IsList text left
in_none text left n_next s = stops_among (λ t. t ≡ codes "none\n") IsList text left (λ t none. ([], tt, none)) (none_if_n text n_next.0 n_next.1) s

pub in_first_item : (text left : List ℕ) → Differs 110 text → StopsBefore (ItemField [] AreFurther) text left → StopsBefore IsList text left
in_first_item text left no_n s = stops_among (ItemField [] AreFurther) IsList text left item_list (item_if_no_n text no_n) s

further_behind_first : (m : Match) (t : List ℕ) (items : List Match) → ItemFits m → IsCut t → AllByRecursion ItemFits items → match_text m ++ t ≡ list_text items ++ NEWLINE → AreFurther t
further_behind_first m t [] fits cut fits' e =
    absurd (not_cut m.id _ (omega (arith, fits.id)) (subst IsCut (sym e ∙ item_parts m t) (other_cut 110 (codes "one\n") (inr (omega arith)))))
further_behind_first m t (n ∷ ns) fits cut fits' e =
    (ns, fits'.1, (split_item m n t (further_items ns ++ NEWLINE) fits fits'.0 cut (further_cut ns NEWLINE newline_cut) (e ∙ append_assoc (match_text n) (further_items ns) NEWLINE)).1)

pub behind_first_item : (m : Match) (text rest left : List ℕ) → ItemFits m → text ≡ match_text m ++ rest → IsCut rest → StopsBefore AreFurther rest left → StopsBefore IsList text left
behind_first_item m text rest left fits e cut s =
    stops_behind_front AreFurther IsList (match_text m) text rest left
    (λ t h. (m ∷ h.0, (fits, h.1), ap (λ x. match_text m ++ x) h.2 ∙ sym (append_assoc (match_text m) (further_items h.0) NEWLINE)))
    (λ t on h. further_behind_first m t h.0 fits (still_cut rest t cut on) h.1 h.2) e s
