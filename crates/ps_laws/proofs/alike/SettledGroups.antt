-- The rounds of a group are made until one changes nothing, or until their limit.
use Rattle.std.proofs.Common.{◌≡◌, ℕ, zero, suc, ◌≤◌, ◌<◌, ◌⊎◌, inl, inr, Bool, true, false, List, refl, ◌∙◌, ap, arith}
use Rattle.ps_model.specs.declared.limits.TheConstants.{ROUND_LIMIT}
use Rattle.ps_model.specs.meaning.RuleMeanings.{RuleMeaning}
use Rattle.ps_model.specs.board.Attempts.{State, Result}
use Rattle.ps_model.specs.board.Programs.{round, settled, group}
use Rattle.ps_laws.specs.Settling.{reached_by, changes, Settles}
use Rattle.ps_laws.proofs.common.EitherWay.{either_way}
use Rattle.ps_laws.proofs.common.Steps.{changes-next, changes-before_first, changes-before_last}

-- one of the first `rounds` rounds changes something
abbrev pub SomeChange : List RuleMeaning → State → ℕ → Type 0
SomeChange rules state rounds = (number : ℕ) × (1 ≤ number) × (number ≤ rounds) ×
    (changes number (round rules) state ≡ true)

change_of_one : (rules : List RuleMeaning) (state : State) → SomeChange rules state 1 →
    (round rules state).changed ≡ true
change_of_one rules state h = let first : 1 ≡ h.0 = omega (arith, h.1, h.2) in
    ap (λ (number : ℕ). changes number (round rules) state) first ∙ h.3

change_of_more : (rules : List RuleMeaning) (state : State) (rounds : ℕ) →
    SomeChange rules (round rules state).state rounds → SomeChange rules state (suc rounds)
change_of_more rules state rounds h = (
  suc h.0,
  omega arith,
  omega (arith, h.2),
  changes-next h.0 (round rules) state h.1 ∙ h.3,
)

-- as `Settles`, after rounds that changed something or not
pub record SettlesBehind (before : Bool) (rules : List RuleMeaning) (limit : ℕ) (state : State) (result : Result) :
    Type 0 where
  pub rounds : ℕ
  pub some_round : 1 ≤ rounds
  pub few_rounds : rounds ≤ limit
  pub reached : result.state ≡ reached_by rounds (round rules) state
  pub going_on : (number : ℕ) → 1 ≤ number → number < rounds → changes number (round rules) state ≡ true
  pub ended : (rounds ≡ limit) ⊎ (changes rounds (round rules) state ≡ false)
  pub tells : result.changed ≡ true → (before ≡ true) ⊎ SomeChange rules state rounds
  pub told : (before ≡ true) ⊎ SomeChange rules state rounds → result.changed ≡ true

-- the first round changes nothing
settles_at_once : (before : Bool) (rules : List RuleMeaning) (limit : ℕ) (state : State) →
    (round rules state).changed ≡ false →
    SettlesBehind before rules (suc limit) state (record { state = (round rules state).state; changed = before })
settles_at_once before rules limit state e = record {
  rounds = 1;
  some_round = omega arith;
  few_rounds = omega arith;
  reached = refl;
  going_on = changes-before_first (round rules) state;
  ended = inr e;
  tells = λ h. inl h;
  told = λ h. elim h [
    | inl was ↦ was
    | inr some ↦ let one = change_of_one rules state some in absurd (cc)
  ];
}

-- the first round is the last that is allowed
settles_at_limit : (before : Bool) (rules : List RuleMeaning) (state : State) → (round rules state).changed ≡ true →
    SettlesBehind before rules 1 state (record { state = (round rules state).state; changed = true })
settles_at_limit before rules state e = record {
  rounds = 1;
  some_round = omega arith;
  few_rounds = omega arith;
  reached = refl;
  going_on = changes-before_first (round rules) state;
  ended = inl refl;
  tells = λ h. inr (1, omega arith, omega arith, e);
  told = λ h. refl;
}

-- the first round changes something, and there are others
settles_later : (before : Bool) (rules : List RuleMeaning) (limit : ℕ) (state : State) (result : Result) →
    (round rules state).changed ≡ true →
    SettlesBehind true rules limit (round rules state).state result →
    SettlesBehind before rules (suc limit) state result
settles_later before rules limit state result e h = record {
  rounds = suc h.rounds;
  some_round = omega arith;
  few_rounds = omega (arith, h.few_rounds);
  reached = h.reached;
  going_on = changes-before_last (round rules) state h.rounds e h.going_on;
  ended = elim h.ended [
    | inl last ↦ inl (ap suc last)
    | inr none ↦ inr (changes-next h.rounds (round rules) state h.some_round ∙ none)
  ];
  tells = λ changed. inr (1, omega arith, omega arith, e);
  told = λ some. h.told (inl refl);
}

settled-behind : (rules : List RuleMeaning) (limit : ℕ) (before : Bool) (state : State) →
    SettlesBehind before rules (suc limit) state (settled rules (suc limit) before state)
settled-behind rules zero before state =
    let next : Result = round rules state in
    either_way (SettlesBehind before rules 1 state) (record { state = next.state; changed = true })
    (record { state = next.state; changed = before }) next.changed
    (settles_at_limit before rules state) (settles_at_once before rules 0 state)
settled-behind rules (suc limit) before state =
    let next : Result = round rules state in
    let more : Result = settled rules (suc limit) true next.state in
    either_way (SettlesBehind before rules (suc (suc limit)) state) more
    (record { state = next.state; changed = before }) next.changed
    (λ e. settles_later before rules (suc limit) state more e (settled-behind rules limit true next.state))
    (settles_at_once before rules (suc limit) state)

-- rounds that are made from the first on settle within any limit that allows one
pub settled-settles : (rules : List RuleMeaning) (limit : ℕ) (state : State) → 1 ≤ limit →
    Settles rules limit state (settled rules limit false state)
settled-settles rules zero state some = absurd (omega arith)
settled-settles rules (suc limit) state some =
    let h = settled-behind rules limit false state in
    record {
      rounds = h.rounds;
      some_round = h.some_round;
      few_rounds = h.few_rounds;
      reached = h.reached;
      going_on = h.going_on;
      ended = h.ended;
      changed = (
        λ changed. elim (h.tells changed) [
          | inl was ↦ absurd (cc)
          | inr some ↦ some
        ],
        λ some. h.told (inr some),
      );
    }

-- and so does a group
pub group-settles : (rules : List RuleMeaning) (state : State) → Settles rules ROUND_LIMIT state (group rules state)
unfolding group
group-settles rules state = settled-settles rules ROUND_LIMIT state (omega arith)
