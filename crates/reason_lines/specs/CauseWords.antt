-- The words of the causes for which a day is passed over.
use Rattle.std.specs.Prelude.{Bool, true, false, ◌||◌, is_some, ℕ, List, [], ◌++◌, codes, Option, Some, None}
use Rattle.court_reasons.specs.declared.cause.Causes.{Causes}
use Rattle.court_reasons.specs.declared.statutory.Holiday.{Holiday}
use Rattle.court_reasons.specs.declared.statutory.Holiday.TheVariants.{NewYear, King, Washington, Memorial, Juneteenth, Independence, Labor, Columbus, Veterans, Thanksgiving, Christmas}
use Rattle.court_reasons.specs.declared.statutory.StatutoryHoliday.{StatutoryHoliday}

-- the holidays of statute (5 U.S.C. 6103(a))
abbrev pub holiday_name : Holiday → List ℕ
holiday_name NewYear = codes "New Year's Day"
holiday_name King = codes "Martin Luther King Jr.'s Birthday"
holiday_name Washington = codes "Washington's Birthday"
holiday_name Memorial = codes "Memorial Day"
holiday_name Juneteenth = codes "Juneteenth"
holiday_name Independence = codes "Independence Day"
holiday_name Labor = codes "Labor Day"
holiday_name Columbus = codes "Columbus Day"
holiday_name Veterans = codes "Veterans' Day"
holiday_name Thanksgiving = codes "Thanksgiving Day"
holiday_name Christmas = codes "Christmas Day"

-- where it is observed on another day than its own
abbrev pub observed_word : Bool → List ℕ
observed_word true = codes " (observed)"
observed_word false = []

-- what separates a cause from one before it
abbrev pub lead : Bool → List ℕ
lead true = codes "; "
lead false = []

-- a holiday of statute (6(a)(6)(A))
abbrev pub statutory_text : StatutoryHoliday → List ℕ
statutory_text statutory = holiday_name statutory.holiday ++ (observed_word statutory.observed ++ codes ", 6(a)(6)(A)")

abbrev pub statutory_cause : Bool → Option StatutoryHoliday → List ℕ
statutory_cause before (Some statutory) = lead before ++ statutory_text statutory
statutory_cause before None = []

-- the words where the cause is true of the day, after another cause or as the first
abbrev pub cause_words : Bool → Bool → List ℕ → List ℕ
cause_words before true words = lead before ++ words
cause_words before false words = []

-- whether a cause of the first kinds is true of the day
abbrev pub on_weekend : Causes → Bool
on_weekend causes = causes.saturday || causes.sunday

abbrev pub by_statute : Causes → Bool
by_statute causes = on_weekend causes || is_some causes.statutory

abbrev pub by_federal : Causes → Bool
by_federal causes = by_statute causes || causes.federal

abbrev pub by_state : Causes → Bool
by_state causes = by_federal causes || causes.state

abbrev pub by_closing : Causes → Bool
by_closing causes = by_state causes || causes.closed

abbrev pub weekend_text : Causes → List ℕ
weekend_text causes =
    cause_words false causes.saturday (codes "Saturday") ++ cause_words causes.saturday causes.sunday (codes "Sunday")

-- a legal holiday (Fed. R. Civ. P. 6(a)(6))
abbrev pub holiday_text : Causes → List ℕ
holiday_text causes =
    statutory_cause (on_weekend causes) causes.statutory
    ++ (cause_words (by_statute causes) causes.federal (codes "declared by the President or Congress, 6(a)(6)(B)")
    ++ cause_words (by_federal causes) causes.state (codes "declared by the state, 6(a)(6)(C)"))

-- a day on which, or a time at which, the clerk's office was inaccessible (6(a)(3))
abbrev pub closure_text : Causes → List ℕ
closure_text causes =
    cause_words (by_state causes) causes.closed (codes "clerk's office closed, 6(a)(3)(A)")
    ++ cause_words (by_closing causes) causes.inaccessible (codes "clerk's office closed in the hour before, 6(a)(3)(B)")

-- each cause that is true of the day
abbrev pub causes_text : Causes → List ℕ
causes_text causes = weekend_text causes ++ (holiday_text causes ++ closure_text causes)
