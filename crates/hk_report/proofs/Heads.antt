-- Heads and report lines, each known from its text.
use Rattle.std.proofs.Common.{◌≡◌, ℕ, ◌^◌, ◌<◌, ◌≤◌, List, [], ◌++◌, refl, sym, ◌∙◌, ap, subst, append_assoc, arith, codes, inl, inr}
use Rattle.std.specs.Fmt.{decimal}
use Rattle.std.specs.List.{AllByRecursion}
use Rattle.std.proofs.lemmas.List.{append_cancel_left}
use Rattle.hk_base.specs.declared.plain.Head.{Head}
use Rattle.hk_base.specs.declared.plain.Match.{Match}
use Rattle.hk_spec_lines.specs.Lines.{NEWLINE, HeadFits, head_text, line, list_text}
use Rattle.hk_report.specs.Reports.{ItemFits, IsReportOf, IsReport}
use Rattle.hk_report.specs.LineReading.{IsDigit, IsCut, StopsBefore, LeavesWord, LeavesField, Behind, Numeral, Field, IsList, MOST_8, MOST_32, MOST_64}
use Rattle.hk_report.proofs.Numbers.{split_number}
use Rattle.hk_report.proofs.Stopping.{FollowsNumber, behind_follows, field_follows, same_kind, stops_in_field, stops_after_field, stops_in_behind, stops_behind_front}
use Rattle.hk_report.proofs.Items.{not_digit, same_list}

-- heads
abbrev first_on : Head → List ℕ → List ℕ
first_on h r = decimal h.first ++ (codes " V " ++ (decimal h.version ++ (codes ": " ++ r)))

abbrev block_on : Head → List ℕ → List ℕ
block_on h r = decimal h.block ++ (codes " G " ++ (decimal h.segment ++ (codes " W " ++ first_on h r)))

abbrev set_out : Head → List ℕ → List ℕ
set_out h r = codes "S " ++ (decimal h.station ++ (codes " B " ++ block_on h r))

fields_regrouped : (a s b n g m w f v k c r : List ℕ) → a ++ s ++ (b ++ n) ++ (g ++ m) ++ (w ++ f) ++ (v ++ k) ++ c ++ r ≡ a ++ (s ++ (b ++ (n ++ (g ++ (m ++ (w ++ (f ++ (v ++ (k ++ (c ++ r))))))))))
fields_regrouped a s b n g m w f v k c r = simp append_assoc

-- a head and more, its parts set out one behind another
head_set_out : (h : Head) (r : List ℕ) → head_text h ++ r ≡ set_out h r
head_set_out h r = fields_regrouped (codes "S ") (decimal h.station) (codes " B ") (decimal h.block) (codes " G ") (decimal h.segment) (codes " W ") (decimal h.first) (codes " V ") (decimal h.version) (codes ": ") r

line_set_out : (h : Head) (items : List Match) → line h items ≡ set_out h (list_text items ++ NEWLINE)
unfolding line
line_set_out h items = append_assoc (head_text h) (list_text items) NEWLINE ∙ head_set_out h (list_text items ++ NEWLINE)

pub line_parts : (h : Head) (items : List Match) → line h items ≡ head_text h ++ (list_text items ++ NEWLINE)
unfolding line
line_parts h items = append_assoc (head_text h) (list_text items) NEWLINE

same_heads : (h k : Head) → h.station ≡ k.station → h.block ≡ k.block → h.segment ≡ k.segment → h.first ≡ k.first → h.version ≡ k.version → h ≡ k
same_heads h k a b c d e =
    let by : ℕ → ℕ → ℕ → ℕ → ℕ → Head = λ s n g w v. record { station = s; block = n; segment = g; first = w; version = v } in
    ap (λ s. by s h.block h.segment h.first h.version) a ∙ ap (λ n. by k.station n h.segment h.first h.version) b ∙ ap (λ g. by k.station k.block g h.first h.version) c
    ∙ ap (λ w. by k.station k.block k.segment w h.version) d ∙ ap (λ v. by k.station k.block k.segment k.first v) e

space : IsDigit 32 → ⊥
space = not_digit 32 (inl (omega arith))

colon_sign : IsDigit 58 → ⊥
colon_sign = not_digit 58 (inr (omega arith))

split_field : (word : List ℕ) (m n : ℕ) (r s : List ℕ) → m < 2 ^ 64 → n < 2 ^ 64 → IsCut r → IsCut s → word ++ (decimal m ++ r) ≡ word ++ (decimal n ++ s) → (m ≡ n) × (r ≡ s)
split_field word m n r s small small' cr cs e = split_number m n r s small small' cr cs (append_cancel_left word (decimal m ++ r) (decimal n ++ s) e)

-- a head and what follows it, each is known from the text
split_head : (h k : Head) (r s : List ℕ) → HeadFits h → HeadFits k → head_text h ++ r ≡ head_text k ++ s → (h ≡ k) × (r ≡ s)
split_head h k r s fits fits' e =
    let colon : Head → List ℕ → List ℕ = λ x t. codes ": " ++ t in
    let version : Head → List ℕ → List ℕ = λ x t. codes " V " ++ (decimal x.version ++ (codes ": " ++ t)) in
    let first : Head → List ℕ → List ℕ = λ x t. codes " W " ++ first_on x t in
    let segment : Head → List ℕ → List ℕ = λ x t. codes " G " ++ (decimal x.segment ++ first x t) in
    let block : Head → List ℕ → List ℕ = λ x t. codes " B " ++ block_on x t in
    let one : (h.station ≡ k.station) × (block h r ≡ block k s) =
    split_field (codes "S ") h.station k.station (block h r) (block k s) (omega (arith, fits.station)) (omega (arith, fits'.station)) space space (sym (head_set_out h r) ∙ e ∙ head_set_out k s) in
    let two : (h.block ≡ k.block) × (segment h r ≡ segment k s) =
    split_field (codes " B ") h.block k.block (segment h r) (segment k s) fits.block fits'.block space space one.1 in
    let three : (h.segment ≡ k.segment) × (first h r ≡ first k s) =
    split_field (codes " G ") h.segment k.segment (first h r) (first k s) fits.segment fits'.segment space space two.1 in
    let four : (h.first ≡ k.first) × (version h r ≡ version k s) =
    split_field (codes " W ") h.first k.first (version h r) (version k s) fits.first fits'.first space space three.1 in
    let five : (h.version ≡ k.version) × (colon h r ≡ colon k s) =
    split_field (codes " V ") h.version k.version (colon h r) (colon k s) (omega (arith, fits.version)) (omega (arith, fits'.version)) colon_sign colon_sign four.1 in
    (same_heads h k one.0 two.0 three.0 four.0 five.0, append_cancel_left (codes ": ") r s five.1)

-- a report line has one reading
pub one_reading : (text : List ℕ) (h k : Head) (a b : List Match) → IsReportOf text h a → IsReportOf text k b → (h ≡ k) × (a ≡ b)
one_reading text h k a b p q =
    let both : (h ≡ k) × (list_text a ++ NEWLINE ≡ list_text b ++ NEWLINE) =
    split_head h k (list_text a ++ NEWLINE) (list_text b ++ NEWLINE) p.head_fits q.head_fits (sym (line_parts h a) ∙ sym p.spelled ∙ q.spelled ∙ line_parts k b) in
    (both.0, same_list a b p.items_fit q.items_fit both.1)

-- a head and a list are a report line, and behind a head only a list makes one
pub list_behind_head : (h : Head) → HeadFits h → (t : List ℕ) → IsList t → IsReport (head_text h ++ t)
list_behind_head h fits t list = (h, list.0, record { head_fits = fits; items_fit = list.1; spelled = ap (λ x. head_text h ++ x) list.2 ∙ sym (line_parts h list.0) })

pub only_list_behind_head : (h : Head) → HeadFits h → (t : List ℕ) → IsReport (head_text h ++ t) → IsList t
only_list_behind_head h fits t report =
    let p : IsReportOf (head_text h ++ t) report.0 report.1 = report.2 in
    (report.1, p.items_fit, (split_head h report.0 t (list_text report.1 ++ NEWLINE) fits p.head_fits (p.spelled ∙ line_parts report.0 report.1)).1)

-- a report line by its fields
abbrev pub AfterVersion : List ℕ → Type 0
AfterVersion t = Behind (codes ": ") IsList t

abbrev pub AfterFirst : List ℕ → Type 0
AfterFirst t = Field (codes " V ") MOST_32 AfterVersion t

abbrev pub AfterSegment : List ℕ → Type 0
AfterSegment t = Field (codes " W ") MOST_64 AfterFirst t

abbrev pub AfterBlock : List ℕ → Type 0
AfterBlock t = Field (codes " G ") MOST_64 AfterSegment t

abbrev pub AfterStation : List ℕ → Type 0
AfterStation t = Field (codes " B ") MOST_64 AfterBlock t

-- a report line by its fields
abbrev AreFields : List ℕ → Type 0
AreFields t = Field (codes "S ") MOST_8 AfterStation t

pub fields_of : (t : List ℕ) → IsReport t → AreFields t
fields_of t report =
    let h : Head = report.0 in
    let p : IsReportOf t h report.1 = report.2 in
    let f : HeadFits h = p.head_fits in
    let tail : List ℕ = list_text report.1 ++ NEWLINE in (
      decimal h.station ++ (codes " B " ++ block_on h tail),
      p.spelled ∙ line_set_out h report.1,
      (
        h.station,
        codes " B " ++ block_on h tail,
        omega (arith, f.station),
        refl,
        (
          block_on h tail,
          refl,
          (
            h.block,
            codes " G " ++ (decimal h.segment ++ (codes " W " ++ first_on h tail)),
            omega (arith, f.block),
            refl,
            (
              decimal h.segment ++ (codes " W " ++ first_on h tail),
              refl,
              (
                h.segment,
                codes " W " ++ first_on h tail,
                omega (arith, f.segment),
                refl,
                (
                  first_on h tail,
                  refl,
                  (
                    h.first,
                    codes " V " ++ (decimal h.version ++ (codes ": " ++ tail)),
                    omega (arith, f.first),
                    refl,
                    (
                      decimal h.version ++ (codes ": " ++ tail),
                      refl,
                      (
                        h.version,
                        codes ": " ++ tail,
                        omega (arith, f.version),
                        refl,
                        (tail, refl, (report.1, p.items_fit, refl)),
                      ),
                    ),
                  ),
                ),
              ),
            ),
          ),
        ),
      ),
    )

pub report_of : (t : List ℕ) → AreFields t → IsReport t
report_of t h =
    let s : Numeral MOST_8 AfterStation h.0 = h.2 in
    let b : Numeral MOST_64 AfterBlock s.4.0 = s.4.2 in
    let g : Numeral MOST_64 AfterSegment b.4.0 = b.4.2 in
    let w : Numeral MOST_64 AfterFirst g.4.0 = g.4.2 in
    let v : Numeral MOST_32 AfterVersion w.4.0 = w.4.2 in
    let list : IsList v.4.0 = v.4.2 in
    let head : Head = record { station = s.0; block = b.0; segment = g.0; first = w.0; version = v.0 } in
    let spelled : t ≡ set_out head (list_text list.0 ++ NEWLINE) =
    h.1 ∙ ap (λ x. codes "S " ++ x) (s.3 ∙ ap (λ x. decimal s.0 ++ x) (s.4.1 ∙ ap (λ x. codes " B " ++ x) (b.3 ∙ ap (λ x. decimal b.0 ++ x) (b.4.1 ∙ ap (λ x. codes " G " ++ x)
    (g.3 ∙ ap (λ x. decimal g.0 ++ x) (g.4.1 ∙ ap (λ x. codes " W " ++ x) (w.3 ∙ ap (λ x. decimal w.0 ++ x) (w.4.1 ∙ ap (λ x. codes " V " ++ x)
    (v.3 ∙ ap (λ x. decimal v.0 ++ x) (v.4.1 ∙ ap (λ x. codes ": " ++ x) list.2))))))))))
    in (
      head,
      list.0,
      record {
        head_fits = record { station = omega (arith, s.2); block = omega (arith, b.2); segment = omega (arith, g.2); first = omega (arith, w.2); version = omega (arith, v.2) };
        items_fit = list.1;
        spelled = spelled ∙ sym (line_set_out head list.0);
      },
    )

-- what may follow the numbers of a head
pub version_follows : FollowsNumber AfterVersion
version_follows = behind_follows 58 (codes " ") IsList (codes "none\n") colon_sign ([], tt, refl)

pub first_follows : FollowsNumber AfterFirst
first_follows = field_follows 32 (codes "V ") MOST_32 AfterVersion space version_follows

pub segment_follows : FollowsNumber AfterSegment
segment_follows = field_follows 32 (codes "W ") MOST_64 AfterFirst space first_follows

pub block_follows : FollowsNumber AfterBlock
block_follows = field_follows 32 (codes "G ") MOST_64 AfterSegment space segment_follows

pub station_follows : FollowsNumber AfterStation
station_follows = field_follows 32 (codes "B ") MOST_64 AfterBlock space block_follows

-- a text that goes wrong in a part of its head, or behind it
pub in_station : (text left : List ℕ) → (good : List ℕ) × (text ≡ good ++ left) × LeavesField (codes "S ") MOST_8 good left → StopsBefore IsReport text left
in_station text left w = same_kind AreFields IsReport text left report_of fields_of (stops_in_field AfterStation (codes "S ") MOST_8 text left (omega arith) station_follows w)

pub behind_station : (n : ℕ) (text rest left : List ℕ) → n ≤ MOST_8 → text ≡ codes "S " ++ decimal n ++ rest → IsCut rest → StopsBefore AfterStation rest left → StopsBefore IsReport text left
behind_station n text rest left small e cut s =
    same_kind AreFields IsReport text left report_of fields_of (stops_after_field AfterStation (codes "S ") MOST_8 n text rest left (omega arith) station_follows small e cut s)

pub in_block : (text left : List ℕ) → (good : List ℕ) × (text ≡ good ++ left) × LeavesField (codes " B ") MOST_64 good left → StopsBefore AfterStation text left
in_block text left w = stops_in_field AfterBlock (codes " B ") MOST_64 text left (omega arith) block_follows w

pub behind_block : (n : ℕ) (text rest left : List ℕ) → n ≤ MOST_64 → text ≡ codes " B " ++ decimal n ++ rest → IsCut rest → StopsBefore AfterBlock rest left → StopsBefore AfterStation text left
behind_block n text rest left small e cut s = stops_after_field AfterBlock (codes " B ") MOST_64 n text rest left (omega arith) block_follows small e cut s

pub in_segment : (text left : List ℕ) → (good : List ℕ) × (text ≡ good ++ left) × LeavesField (codes " G ") MOST_64 good left → StopsBefore AfterBlock text left
in_segment text left w = stops_in_field AfterSegment (codes " G ") MOST_64 text left (omega arith) segment_follows w

pub behind_segment : (n : ℕ) (text rest left : List ℕ) → n ≤ MOST_64 → text ≡ codes " G " ++ decimal n ++ rest → IsCut rest → StopsBefore AfterSegment rest left → StopsBefore AfterBlock text left
behind_segment n text rest left small e cut s = stops_after_field AfterSegment (codes " G ") MOST_64 n text rest left (omega arith) segment_follows small e cut s

pub in_first : (text left : List ℕ) → (good : List ℕ) × (text ≡ good ++ left) × LeavesField (codes " W ") MOST_64 good left → StopsBefore AfterSegment text left
in_first text left w = stops_in_field AfterFirst (codes " W ") MOST_64 text left (omega arith) first_follows w

pub behind_first : (n : ℕ) (text rest left : List ℕ) → n ≤ MOST_64 → text ≡ codes " W " ++ decimal n ++ rest → IsCut rest → StopsBefore AfterFirst rest left → StopsBefore AfterSegment text left
behind_first n text rest left small e cut s = stops_after_field AfterFirst (codes " W ") MOST_64 n text rest left (omega arith) first_follows small e cut s

pub in_version : (text left : List ℕ) → (good : List ℕ) × (text ≡ good ++ left) × LeavesField (codes " V ") MOST_32 good left → StopsBefore AfterFirst text left
in_version text left w = stops_in_field AfterVersion (codes " V ") MOST_32 text left (omega arith) version_follows w

pub behind_version : (n : ℕ) (text rest left : List ℕ) → n ≤ MOST_32 → text ≡ codes " V " ++ decimal n ++ rest → IsCut rest → StopsBefore AfterVersion rest left → StopsBefore AfterFirst text left
behind_version n text rest left small e cut s = stops_after_field AfterVersion (codes " V ") MOST_32 n text rest left (omega arith) version_follows small e cut s

pub in_colon : (text left : List ℕ) → (good : List ℕ) × (text ≡ good ++ left) × LeavesWord (codes ": ") good left → StopsBefore AfterVersion text left
in_colon text left w = stops_in_behind IsList (codes ": ") text left (codes "none\n") ([], tt, refl) w

-- a text that goes wrong behind its head
pub behind_head : (h : Head) (text rest left : List ℕ) → HeadFits h → text ≡ head_text h ++ rest → StopsBefore IsList rest left → StopsBefore IsReport text left
behind_head h text rest left fits e s = stops_behind_front IsList IsReport (head_text h) text rest left (list_behind_head h fits) (λ t on. only_list_behind_head h fits t) e s

-- a report line from its head and its list
pub report_from : (h : Head) (items kept : List Match) (text rest : List ℕ) → HeadFits h → text ≡ head_text h ++ rest → AllByRecursion ItemFits items → rest ≡ list_text items ++ NEWLINE → kept ≡ items → IsReportOf text h kept
report_from h items kept text rest fits e fits' list same = record {
  head_fits = fits;
  items_fit = subst (AllByRecursion ItemFits) (sym same) fits';
  spelled = e ∙ ap (λ x. head_text h ++ x) (list ∙ ap (λ x. list_text x ++ NEWLINE) (sym same)) ∙ sym (line_parts h kept);
}
