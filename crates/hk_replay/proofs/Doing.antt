-- What a task does, from what a player's play does.
use Rattle.std.proofs.Common.{◌≡◌, ◌++◌, ◌+◌, ◌<◌, length, length-append, ℕ, List, [], refl, sym, ◌∙◌, ap, subst, arith, inl, inr, true, false, Option, Some, None, option_map, append-nil}
use Rattle.std.specs.Prelude.{String, Bool, IsNone, Result, Ok, Err, ◌≤◌, ◌⊎◌}
use Rattle.std.specs.Option.{IfSome, option_or, option_map_or}
use Rattle.std.proofs.lemmas.Bool.Decides.{leb_tells}
use Rattle.std.proofs.lemmas.Bool.{both_ways}
use Rattle.std.proofs.lemmas.List.{append_cancel_left}
use Rattle.hk_base.specs.Devices.{Rose, Took, Wrote, IsNothing}
use Rattle.hk_base.specs.declared.source.Source.{Ghosts as Sources}
use Rattle.hk_base.specs.declared.sink.Sink.{Ghosts as Sinks}
use Rattle.hk_base.specs.declared.plain.NoMemory.{NoMemory}
use Rattle.hk_base.specs.declared.plain.Trouble.{Trouble}
use Rattle.hk_base.specs.declared.plain.Trouble.TheVariants.{BadRecord, TooLong}
use Rattle.hk_base.proofs.Writing.{rose_never_falls}
use Rattle.hk_spec_streams.specs.Records.{input_met, open_record}
use Rattle.hk_run.proofs.Seen.{fault_more}
use Rattle.hk_spec_runs.specs.Outcome.{Task, task_of, Trades, IsWhole, IsStopped, IsReadFault, IsWriteFault}
use Rattle.hk_spec_runs.proofs.EndsTold.{ends_are_told}
use Rattle.hk_spec_runs.specs.Words.{Order, Replay, Print, Make, order_of}
use Rattle.hk_words.specs.Options.{word_texts}
use Rattle.hk_player.specs.Endings.{Between, Does}
use Rattle.hk_player.specs.declared.ending.Ending.{Ending}
use Rattle.hk_player.specs.declared.ending.Ending.TheVariants.{Whole, Stopped, ReadFault, SinkFault}
use Rattle.hk_printer.proofs.Limits.{within_limit, over_it}
use Rattle.hk_replay.specs.Orders.{CarriesOut}
use Rattle.hk_replay.specs.Top.{IfAsked, task_asked, IsStatus, code_of, ENDED, IN_DISORDER, USAGE, NO_MEMORY, READ_FAULT, WRITE_FAULT, STOPPED}

some_isnt : {A : Type 0} (x : A) → Some x ≡ None → ⊥
some_isnt x is = cc

-- a fault that was met stays, whatever bytes follow
fault_stays : (order : Order) (b more : List ℕ) (t : Trouble) → (task_of order).met b ≡ Some t → ((task_of order).wrong (b ++ more) ≡ None) → ⊥
fault_stays (Replay rules) b more t met right =
    let met_at = input_met rules.stations rules.bytes in
    some_isnt t (sym (ap (λ f. option_or f (option_map_or (λ r. Some (BadRecord r.place)) (open_record (b ++ more)) None)) (fault_more met_at b more t met)) ∙ right)
fault_stays (Print p) b more t met right = elim (leb_tells (length b) p.bytes) [
  | inl few ↦ some_isnt t (sym met ∙ within_limit p b few.1)
  | inr many ↦
      let long : length (b ++ more) ≡ length b + length more = length-append b more in
      let over : p.bytes < length (b ++ more) = omega (arith, many.1, long) in
      some_isnt (TooLong p.bytes) (sym (over_it p (b ++ more) over) ∙ right)
]
fault_stays (Make seed rules) b more t met right = some_isnt t (sym met)

-- nothing stops an input with which nothing is wrong
never_stopped : (order : Order) (whole b o : List ℕ) (left rest : Option (List ℕ)) → left ≡ Some whole → Took b left rest → IsStopped (task_of order) rest b o
    → (task_of order).wrong whole ≡ None → ⊥
never_stopped order whole b o left None tells took stopped right = let no : None ≡ Some whole = sym took ∙ tells in cc
never_stopped order whole b o left (Some more) tells took stopped right =
    let parts : Some (b ++ more) ≡ Some whole = sym took ∙ tells in
    let same : b ++ more ≡ whole = cc in
    by ((task_of order).met b) refl same
  where
    by : (f : Option Trouble) → (task_of order).met b ≡ f → b ++ more ≡ whole → ⊥
    by (Some t) met same = fault_stays order b more t met (ap (task_of order).wrong same ∙ right)
    by None met same =
        let all : b ≡ whole = sym (append-nil b) ∙ ap (λ m. b ++ m) (sym (stopped.at_the_end met)) ∙ same in
        some_isnt stopped.trouble (sym stopped.first ∙ ap (task_of order).wrong all ∙ right)

-- What carrying an order out leaves, by its status.
pub record Told {S K : Type 0} (source : Sources S) (sink : Sinks K) (order : Order) (code : ℕ) (input input' : S) (out out' : K) : Type 0 where
  pub known : IsStatus code
  pub asked : code ≡ USAGE → ⊥
  pub reads_count : source.faults input ≤ source.faults input'
  pub writes_count : sink.faults out ≤ sink.faults out'
  pub no_memory_unread : code ≡ NO_MEMORY → input' ≡ input
  pub no_memory_unwritten : code ≡ NO_MEMORY → out' ≡ out
  pub ended : code ≡ ENDED → Between source sink input input' out out' (IsWhole (task_of order) (source.left input') true)
  pub in_disorder : code ≡ IN_DISORDER → Between source sink input input' out out' (IsWhole (task_of order) (source.left input') false)
  pub read_fault : code ≡ READ_FAULT → Between source sink input input' out out' (IsReadFault (task_of order))
  pub write_fault : code ≡ WRITE_FAULT → Between source sink input input' out out' (IsWriteFault (task_of order) (Rose (source.faults input) (source.faults input')) (source.left input'))
  pub stopped : code ≡ STOPPED → Between source sink input input' out out' (IsStopped (task_of order) (source.left input'))
  pub read_fault_cause : code ≡ READ_FAULT → Rose (source.faults input) (source.faults input')
  pub write_fault_cause : code ≡ WRITE_FAULT → Rose (sink.faults out) (sink.faults out')
  pub no_read_failed : (code ≡ READ_FAULT → ⊥) → (code ≡ WRITE_FAULT → ⊥) → source.faults input' ≡ source.faults input
  pub no_write_failed : (code ≡ WRITE_FAULT → ⊥) → sink.faults out' ≡ sink.faults out
  pub complete : (b : List ℕ) → source.left input ≡ Some b → (task_of order).wrong b ≡ None → (Rose (source.faults input) (source.faults input') → ⊥) → (Rose (sink.faults out) (sink.faults out') → ⊥)
      → (code ≡ NO_MEMORY → ⊥) → (code ≡ ENDED) ⊎ (code ≡ IN_DISORDER)

module _ {S K : Type 0} (source : Sources S) (sink : Sinks K) (order : Order) (input input' : S) (out out' : K) where
  abbrev ToldBy : ℕ → Type 0
  ToldBy code = Told source sink order code input input' out out'

  whole_told : Does source sink (task_of order) (Whole true) input input' out out' → ToldBy ENDED
  whole_told d = record {
    known = inl refl;
    asked = λ is. cc;
    reads_count = omega (arith, d.1);
    writes_count = omega (arith, d.2);
    no_memory_unread = λ is. cc;
    no_memory_unwritten = λ is. cc;
    ended = λ is. d.0;
    in_disorder = λ is. cc;
    read_fault = λ is. cc;
    write_fault = λ is. cc;
    stopped = λ is. cc;
    read_fault_cause = λ is. cc;
    write_fault_cause = λ is. cc;
    no_read_failed = λ read write. d.1;
    no_write_failed = λ write. d.2;
    complete = λ b tells right reads writes memory. inl refl;
  }

  disorder_told : Does source sink (task_of order) (Whole false) input input' out out' → ToldBy IN_DISORDER
  disorder_told d = record {
    known = inr (inr (inl refl));
    asked = λ is. cc;
    reads_count = omega (arith, d.1);
    writes_count = omega (arith, d.2);
    no_memory_unread = λ is. cc;
    no_memory_unwritten = λ is. cc;
    ended = λ is. cc;
    in_disorder = λ is. d.0;
    read_fault = λ is. cc;
    write_fault = λ is. cc;
    stopped = λ is. cc;
    read_fault_cause = λ is. cc;
    write_fault_cause = λ is. cc;
    no_read_failed = λ read write. d.1;
    no_write_failed = λ write. d.2;
    complete = λ b tells right reads writes memory. inr refl;
  }

  stopped_told : Does source sink (task_of order) Stopped input input' out out' → ToldBy STOPPED
  stopped_told d = record {
    known = inr (inr (inr (inr (inr (inr refl)))));
    asked = λ is. cc;
    reads_count = omega (arith, d.1);
    writes_count = omega (arith, d.2);
    no_memory_unread = λ is. cc;
    no_memory_unwritten = λ is. cc;
    ended = λ is. cc;
    in_disorder = λ is. cc;
    read_fault = λ is. cc;
    write_fault = λ is. cc;
    stopped = λ is. d.0;
    read_fault_cause = λ is. cc;
    write_fault_cause = λ is. cc;
    no_read_failed = λ read write. d.1;
    no_write_failed = λ write. d.2;
    complete = λ b tells right reads writes memory. absurd (never_stopped order b d.0.0 d.0.1 (source.left input) (source.left input') tells d.0.2 d.0.4 right);
  }

  unread_told : Does source sink (task_of order) ReadFault input input' out out' → ToldBy READ_FAULT
  unread_told d = record {
    known = inr (inr (inr (inr (inl refl))));
    asked = λ is. cc;
    reads_count = rose_never_falls _ _ d.1;
    writes_count = omega (arith, d.2);
    no_memory_unread = λ is. cc;
    no_memory_unwritten = λ is. cc;
    ended = λ is. cc;
    in_disorder = λ is. cc;
    read_fault = λ is. d.0;
    write_fault = λ is. cc;
    stopped = λ is. cc;
    read_fault_cause = λ is. d.1;
    write_fault_cause = λ is. cc;
    no_read_failed = λ read write. absurd (read refl);
    no_write_failed = λ write. d.2;
    complete = λ b tells right reads writes memory. absurd (reads d.1);
  }

  torn_told : Does source sink (task_of order) SinkFault input input' out out' → ToldBy WRITE_FAULT
  torn_told d = record {
    known = inr (inr (inr (inr (inr (inl refl)))));
    asked = λ is. cc;
    reads_count = d.1;
    writes_count = rose_never_falls _ _ d.2;
    no_memory_unread = λ is. cc;
    no_memory_unwritten = λ is. cc;
    ended = λ is. cc;
    in_disorder = λ is. cc;
    read_fault = λ is. cc;
    write_fault = λ is. d.0;
    stopped = λ is. cc;
    read_fault_cause = λ is. cc;
    write_fault_cause = λ is. d.2;
    no_read_failed = λ read write. absurd (write refl);
    no_write_failed = λ write. absurd (write refl);
    complete = λ b tells right reads writes memory. absurd (writes d.2);
  }

  no_memory_told : input' ≡ input → out' ≡ out → ToldBy NO_MEMORY
  no_memory_told unread unwritten = record {
    known = inr (inr (inr (inl refl)));
    asked = λ is. cc;
    reads_count = omega (arith, ap source.faults unread);
    writes_count = omega (arith, ap sink.faults unwritten);
    no_memory_unread = λ is. unread;
    no_memory_unwritten = λ is. unwritten;
    ended = λ is. cc;
    in_disorder = λ is. cc;
    read_fault = λ is. cc;
    write_fault = λ is. cc;
    stopped = λ is. cc;
    read_fault_cause = λ is. cc;
    write_fault_cause = λ is. cc;
    no_read_failed = λ read write. ap source.faults unread;
    no_write_failed = λ write. ap sink.faults unwritten;
    complete = λ b tells right reads writes memory. absurd (memory refl);
  }

  pub told_by : (result : Result Ending NoMemory) (code : ℕ) → code ≡ code_of result → CarriesOut source sink (task_of order) result input input' out out' → ToldBy code
  told_by (Ok (Whole true)) code is d = subst ToldBy (sym is) (whole_told d)
  told_by (Ok (Whole false)) code is d = subst ToldBy (sym is) (disorder_told d)
  told_by (Ok Stopped) code is d = subst ToldBy (sym is) (stopped_told d)
  told_by (Ok ReadFault) code is d = subst ToldBy (sym is) (unread_told d)
  told_by (Ok SinkFault) code is d = subst ToldBy (sym is) (torn_told d)
  told_by (Err none) code is d = subst ToldBy (sym is) (no_memory_told d.0 d.1)

-- the words ask for this order's task
pub asked_for : {A : Type 0} (words : List (String A)) (order : Order) (P : Task → Type 0) → Some order ≡ order_of (word_texts words) → P (task_of order) → IfAsked words P
asked_for words order P is holds = subst (λ o. IfSome (option_map task_of o) P) is holds

pub asks : {A : Type 0} (words : List (String A)) (order : Order) → Some order ≡ order_of (word_texts words) → IsNone (task_asked words) → ⊥
asks words order is none = let nothing : IsNone (option_map task_of (Some order)) = subst (λ o. IsNone (option_map task_of o)) (sym is) none in cc

-- all of the input was read
pub whole_input : (b' b : List ℕ) (left left' : Option (List ℕ)) → Took b' left left' → left ≡ Some b → IsNothing left' → b' ≡ b
whole_input b' b left None took tells nothing = absurd (let no : None ≡ Some b = sym took ∙ tells in cc)
whole_input b' b left (Some rest) took tells nothing =
    let parts : Some (b' ++ rest) ≡ Some b = sym took ∙ tells in
    let same : b' ++ rest ≡ b = cc in
    sym (append-nil b') ∙ ap (λ r. b' ++ r) (sym nothing) ∙ same

-- what was written behind a text that is told
written_behind : (o o' text : List ℕ) (written written' : Option (List ℕ)) → Wrote o written written' → written ≡ Some text → written' ≡ Some (text ++ o') → o ≡ o'
written_behind o o' text written written' wrote before after =
    let both : Some (text ++ o) ≡ Some (text ++ o') = sym (ap (option_map (λ t. t ++ o)) before) ∙ sym wrote ∙ after in
    let same : text ++ o ≡ text ++ o' = cc in
    append_cancel_left text o o' same

-- the text that is made of an input tells whether all streams ended in order
order_tells : (order : Order) (b some others : List ℕ) → (task_of order).whole b some ≡ (task_of order).whole b others → (task_of order).ended b some ≡ (task_of order).ended b others
order_tells (Replay rules) b some others same = ends_are_told rules b some others same
order_tells (Print p) b some others same = refl
order_tells (Make seed rules) b some others same = refl

-- A task whose text with no refusal for memory was written, and by which all streams end in order, isn't told to be in disorder.
never_in_disorder : (order : Order) (b text : List ℕ) (left left' written written' : Option (List ℕ)) → (task_of order).reads ≡ true → left ≡ Some b → written ≡ Some text
    → written' ≡ Some (text ++ (task_of order).whole b []) → (task_of order).ended b [] ≡ true → Trades left left' written written' (IsWhole (task_of order) left' false) → ⊥
never_in_disorder order b text left left' written written' reads tells before after in_order trades =
    let whole = trades.4 in
    let same : trades.0 ≡ b = whole_input trades.0 b left left' trades.2 tells (whole.to_the_end reads) in
    let wrote : trades.1 ≡ (task_of order).whole b [] = written_behind trades.1 ((task_of order).whole b []) text written written' trades.3 before after in
    let said : (task_of order).whole b whole.refused ≡ (task_of order).whole b [] = ap (λ t. (task_of order).whole t whole.refused) (sym same) ∙ sym whole.text ∙ wrote in
    both_ways ((task_of order).ended b whole.refused) (sym (ap (λ t. (task_of order).ended t whole.refused) same) ∙ whole.ended) (order_tells order b whole.refused [] said ∙ in_order)

-- the text of an input that is read tells whether all streams ended in order; that of an input that is made has none
reads_or_not : (b : Bool) → (b ≡ true) ⊎ (b ≡ false)
reads_or_not true = inl refl
reads_or_not false = inr refl

-- an order that reads nothing isn't told to be in disorder
unread_in_order : (order : Order) (rest : Option (List ℕ)) (b o : List ℕ) → (task_of order).reads ≡ false → IsWhole (task_of order) rest false b o → ⊥
unread_in_order (Replay rules) rest b o unread whole = cc
unread_in_order (Print p) rest b o unread whole = cc
unread_in_order (Make seed rules) rest b o unread whole = let wrong : true ≡ false = whole.ended in cc

module _ {S K : Type 0} (source : Sources S) (sink : Sinks K) (order : Order) (code : ℕ) (input input' : S) (out out' : K) (told : Told source sink order code input input' out out') where
  -- it ended in order
  pub ends_in_order : (b text : List ℕ) → source.left input ≡ Some b → (task_of order).wrong b ≡ None → (task_of order).ended b [] ≡ true → sink.written out ≡ Some text
      → sink.written out' ≡ Some (text ++ (task_of order).whole b []) → (Rose (source.faults input) (source.faults input') → ⊥) → (Rose (sink.faults out) (sink.faults out') → ⊥) → (code ≡ NO_MEMORY → ⊥) → code ≡ ENDED
  ends_in_order b text tells right in_order before after no_read no_write memory =
      elim (told.complete b tells right no_read no_write memory) [
        | inl ended ↦ ended
        | inr disorder ↦ elim (reads_or_not (task_of order).reads) [
          | inl reading ↦ absurd (never_in_disorder order b text (source.left input) (source.left input') (sink.written out) (sink.written out') reading tells before after in_order (told.in_disorder disorder))
          | inr unread ↦ absurd (let trades = told.in_disorder disorder in unread_in_order order (source.left input') trades.0 trades.1 unread trades.4)
        ]
      ]

  -- the same where all streams end in order by every reading of what was written
  pub ends_by_every_reading : (b : List ℕ) → source.left input ≡ Some b → (task_of order).wrong b ≡ None
      → ((refused : List ℕ) → Wrote ((task_of order).whole b refused) (sink.written out) (sink.written out') → (task_of order).ended b refused ≡ true)
      → (Rose (source.faults input) (source.faults input') → ⊥) → (Rose (sink.faults out) (sink.faults out') → ⊥) → (code ≡ NO_MEMORY → ⊥) → code ≡ ENDED
  ends_by_every_reading b tells right in_order no_read no_write memory =
      elim (told.complete b tells right no_read no_write memory) [
        | inl ended ↦ ended
        | inr disorder ↦ let trades = told.in_disorder disorder in elim (reads_or_not (task_of order).reads) [
          | inr unread ↦ absurd (unread_in_order order (source.left input') trades.0 trades.1 unread trades.4)
          | inl reading ↦
              let whole = trades.4 in
              let same : trades.0 ≡ b = whole_input trades.0 b (source.left input) (source.left input') trades.2 tells (whole.to_the_end reading) in
              let wrote : Wrote ((task_of order).whole b whole.refused) (sink.written out) (sink.written out') =
              subst (λ t. Wrote t (sink.written out) (sink.written out')) (whole.text ∙ ap (λ t. (task_of order).whole t whole.refused) same) trades.3 in
              absurd (both_ways ((task_of order).ended b whole.refused) (sym (ap (λ t. (task_of order).ended t whole.refused) same) ∙ whole.ended) (in_order whole.refused wrote))
        ]
      ]
