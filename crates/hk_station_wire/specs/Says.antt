-- What an item tells of a text and its last byte: how the segments, the sent prints and the fences grew.
use Rattle.std.specs.Prelude.{◌≡◌, ℕ, ◌==◌, Bool, true, false, List, [], ◌∷◌, ◌++◌, length, Some, None}
use Rattle.hk_base.specs.declared.plain.Form.{Form}
use Rattle.hk_base.specs.declared.plain.Print.{Print}
use Rattle.hk_base.specs.declared.plain.WireFault.{WireFault}
use Rattle.hk_spec_streams.specs.Station.{heard_form, ends_hello, station_fault, station_seen, segments, sent_prints, fences}
use Rattle.hk_station_wire.specs.LastPacket.{all_sent_prints, gap_is_open}

-- it tells of prints
abbrev pub hears_prints : List ℕ → Bool
hears_prints text = (heard_form text).channels == 0

-- the byte goes to the last segment, and no gap is open
pub record GainsByte (text : List ℕ) (byte : ℕ) : Type 0 where
  pub front : List (List ℕ)
  pub segment : List ℕ
  pub before : segments text ≡ front ++ segment ∷ []
  pub after : segments (text ++ byte ∷ []) ≡ front ++ (segment ++ byte ∷ []) ∷ []
  pub no_gap_before : gap_is_open text ≡ false
  pub no_gap_after : gap_is_open (text ++ byte ∷ []) ≡ false

-- a byte that brings nothing: no segment grows, or a gap's kind begins one, or the last one gains a part of a print
pub data Quiet (text : List ℕ) (byte : ℕ) : Type 0 where
  KeepsSegments : segments (text ++ byte ∷ []) ≡ segments text → gap_is_open (text ++ byte ∷ []) ≡ gap_is_open text → Quiet text byte
  BeginsGap : segments (text ++ byte ∷ []) ≡ segments text ++ [] ∷ [] → gap_is_open text ≡ false → gap_is_open (text ++ byte ∷ []) ≡ true → Quiet text byte
  PartOfPrint : hears_prints text ≡ true → (gain : GainsByte text byte) → sent_prints (gain.segment ++ byte ∷ []) ≡ sent_prints gain.segment → Quiet text byte

-- neither the text nor its last byte meets a fault, so that all of it is seen
pub record NoFault (limit : ℕ) (text : List ℕ) (byte : ℕ) : Type 0 where
  pub before : station_fault limit text ≡ None
  pub after : station_fault limit (text ++ byte ∷ []) ≡ None
  pub seen_before : station_seen limit text ≡ text
  pub seen_after : station_seen limit (text ++ byte ∷ []) ≡ text ++ byte ∷ []

pub record SaysNothing (limit : ℕ) (text : List ℕ) (byte : ℕ) : Type 0 where
  pub no_fault : NoFault limit text byte
  pub same_form : heard_form (text ++ byte ∷ []) ≡ heard_form text
  pub quiet : Quiet text byte
  pub same_prints : all_sent_prints (text ++ byte ∷ []) ≡ all_sent_prints text
  pub same_fences : fences (text ++ byte ∷ []) ≡ fences text

pub record SaysHello (form : Form) (limit : ℕ) (text : List ℕ) (byte : ℕ) : Type 0 where
  pub no_fault : NoFault limit text byte
  pub last : ends_hello (text ++ byte ∷ []) ≡ true
  pub form_is : form ≡ heard_form (text ++ byte ∷ [])
  pub no_gap_before : gap_is_open text ≡ false
  pub no_gap_after : gap_is_open (text ++ byte ∷ []) ≡ false
  pub segments_before : segments text ≡ [] ∷ []
  pub segments_after : segments (text ++ byte ∷ []) ≡ [] ∷ []
  pub fences_before : fences text ≡ []
  pub fences_after : fences (text ++ byte ∷ []) ≡ []

pub record SaysByte (sound limit : ℕ) (text : List ℕ) (byte : ℕ) : Type 0 where
  pub no_fault : NoFault limit text byte
  pub same_form : heard_form (text ++ byte ∷ []) ≡ heard_form text
  pub is_last : sound ≡ byte
  pub sounds : hears_prints text ≡ false
  pub gain : GainsByte text byte
  pub same_fences : fences (text ++ byte ∷ []) ≡ fences text

pub record SaysPrint (print : Print) (limit : ℕ) (text : List ℕ) (byte : ℕ) : Type 0 where
  pub no_fault : NoFault limit text byte
  pub same_form : heard_form (text ++ byte ∷ []) ≡ heard_form text
  pub carries : hears_prints text ≡ true
  pub gain : GainsByte text byte
  pub sent : sent_prints (gain.segment ++ byte ∷ []) ≡ sent_prints gain.segment ++ print ∷ []
  pub more_prints : all_sent_prints (text ++ byte ∷ []) ≡ all_sent_prints text ++ print ∷ []
  pub same_fences : fences (text ++ byte ∷ []) ≡ fences text

pub record SaysFence (asked limit : ℕ) (text : List ℕ) (byte : ℕ) : Type 0 where
  pub no_fault : NoFault limit text byte
  pub same_form : heard_form (text ++ byte ∷ []) ≡ heard_form text
  pub same_segments : segments (text ++ byte ∷ []) ≡ segments text
  pub no_gap_before : gap_is_open text ≡ false
  pub no_gap_after : gap_is_open (text ++ byte ∷ []) ≡ false
  pub more_fences : fences (text ++ byte ∷ []) ≡ fences text ++ record { asked = asked; place = length text } ∷ []

pub record SaysGap (limit : ℕ) (text : List ℕ) (byte : ℕ) : Type 0 where
  pub no_fault : NoFault limit text byte
  pub same_form : heard_form (text ++ byte ∷ []) ≡ heard_form text
  pub same_segments : segments (text ++ byte ∷ []) ≡ segments text
  pub gap_before : gap_is_open text ≡ true
  pub no_gap_after : gap_is_open (text ++ byte ∷ []) ≡ false
  pub same_fences : fences (text ++ byte ∷ []) ≡ fences text

pub record SaysFault (fault : WireFault) (limit : ℕ) (text : List ℕ) (byte : ℕ) : Type 0 where
  pub is_fault : station_fault limit (text ++ byte ∷ []) ≡ Some fault
  pub seen_stays : station_seen limit (text ++ byte ∷ []) ≡ station_seen limit text
