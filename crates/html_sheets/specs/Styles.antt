-- How a page looks: the style sheet of every page (CSS 2.2; Custom Properties 1; Media Queries 5), a rule a line. System fonts, two
-- colours beside black and white, the dark ones where the system is dark; on a narrow screen the cells of a row stand one behind the
-- other, in as many lines as they take; in print neither links nor forms are shown but the day is, no row is broken, and heads are on each page.
use Rattle.std.specs.Prelude.{ℕ, List, [], ◌∷◌, ◌++◌, codes}
use Rattle.std.specs.List.{flat_map}

-- the colours, and those of a system that is dark: each text has a contrast of 4.5 to 1 at least
abbrev pub colour_rules : List (List ℕ)
colour_rules =
    codes ":root { color-scheme: light dark; --ink: #1b1f24; --soft: #57606a; --line: #d0d7de; --paper: #fff; --wash: #f6f8fa; --link: #0b57a4; --late: #a40e26 }"
    ∷ codes "@media (prefers-color-scheme: dark) { :root { --ink: #e6edf3; --soft: #9198a1; --line: #3d444d; --paper: #0d1117; --wash: #151b23; --link: #79b8ff; --late: #ff8f9a } }"
    ∷ []

-- the page, its headings, and the links that belong together; those to the pages of the docket stand on top. The day of printing is for print
abbrev pub page_rules : List (List ℕ)
page_rules =
    codes "* { box-sizing: border-box }"
    ∷ codes "body { margin: 0 auto; max-width: 66rem; padding: 0 1rem 3rem; font: 1rem/1.5 system-ui, sans-serif; color: var(--ink); background: var(--paper) }"
    ∷ codes "main { display: flex; flex-direction: column }"
    ∷ codes "a { color: var(--link) }"
    ∷ codes "bdi { overflow-wrap: anywhere }"
    ∷ codes "time, .number { white-space: nowrap }"
    ∷ codes "h1 { font-size: 1.6rem; line-height: 1.25; margin: 1.5rem 0 .5rem }"
    ∷ codes "h2 { font-size: 1.15rem; margin: 2rem 0 .5rem }"
    ∷ codes "p { margin: .5rem 0 }"
    ∷ codes "nav { display: flex; flex-wrap: wrap; align-items: center; gap: .4rem 1.25rem; margin: .5rem 0 }"
    ∷ codes "nav[aria-label=Docket] { order: -1; margin: 0; padding: .75rem 0; border-bottom: 1px solid var(--line) }"
    ∷ codes "nav form { font-size: .875rem }"
    ∷ codes "nav form + form { margin-left: auto }"
    ∷ codes "nav input, nav button { padding: .2rem .5rem }"
    ∷ codes ".printed { display: none }"
    ∷ codes ".act a { font-size: .875rem; margin-left: .5rem; white-space: nowrap }"
    ∷ []

-- lists, tables, texts of lines, and that something was late
abbrev pub table_rules : List (List ℕ)
table_rules =
    codes "dl { display: grid; grid-template-columns: max-content auto; gap: .2rem 1rem; margin: .5rem 0 }"
    ∷ codes "dt { color: var(--soft) }"
    ∷ codes "dd { margin: 0 }"
    ∷ codes "table { border-collapse: collapse; width: 100%; margin: .5rem 0; font-variant-numeric: tabular-nums }"
    ∷ codes "th, td { text-align: left; vertical-align: top; padding: .4rem .75rem .4rem 0; border-bottom: 1px solid var(--line) }"
    ∷ codes "thead th { color: var(--soft); font-weight: 600; font-size: .85rem; border-bottom-width: 2px }"
    ∷ codes "pre { margin: .5rem 0; padding: .75rem 1rem; overflow-x: auto; font: .9rem/1.5 ui-monospace, monospace; background: var(--wash); border: 1px solid var(--line) }"
    ∷ codes ".late { color: var(--late); font-weight: 600 }"
    ∷ []

-- forms: what is said of one that was refused, and its fields
abbrev pub form_rules : List (List ℕ)
form_rules =
    codes ".said { border-left: 4px solid var(--late); background: var(--wash); padding: .6rem .9rem; margin: 1rem 0 }"
    ∷ codes "[role=status] { border-left: 4px solid var(--link); padding: .1rem .9rem; margin: 1rem 0 }"
    ∷ codes "[role=status] h2 { margin-top: .5rem }"
    ∷ codes ".entry { max-width: 34rem; margin-top: 1rem }"
    ∷ codes ".entry p { margin: 0 0 1rem }"
    ∷ codes ".entry label { display: block; font-weight: 600; margin-bottom: .2rem }"
    ∷ codes ".entry input, .entry select { width: 100% }"
    ∷ codes ".hint { display: block; color: var(--soft); font-size: .875rem }"
    ∷ codes "input, select, button { font: inherit; color: inherit; background: var(--paper); border: 1px solid var(--soft); border-radius: .3rem; padding: .4rem .55rem; max-width: 100% }"
    ∷ codes "::placeholder { color: var(--soft); opacity: 1 }"
    ∷ codes "[aria-invalid=true] { border-color: var(--late); border-width: 2px }"
    ∷ codes "button { color: var(--paper); background: var(--link); border-color: var(--link); padding: .4rem 1.1rem; cursor: pointer }"
    ∷ codes "button.other { color: var(--link); background: var(--paper) }"
    ∷ codes ":focus-visible { outline: 3px solid var(--link); outline-offset: 2px }"
    ∷ []

-- a narrow screen, where the numbers in a list of what is due are told apart by words, and print
abbrev pub media_rules : List (List ℕ)
media_rules =
    codes "@media screen and (max-width: 52rem) { table, thead, tbody { display: block } tr { display: flex; flex-wrap: wrap; gap: 0 .75rem; padding: .4rem 0; border-bottom: 1px solid var(--line) } th, td { border: 0; padding: 0 } }"
    ∷ codes "@media screen and (max-width: 52rem) { td:nth-child(4):nth-last-child(6)::before { content: 'case ' } td:nth-child(6):nth-last-child(4)::before { content: 'deadline ' } td:nth-child(8):nth-last-child(2)::before { content: 'party ' } }"
    ∷ codes "@media screen and (max-width: 52rem) { pre { white-space: pre-wrap } .number bdi { white-space: normal } nav form + form { margin-left: 0 } }"
    ∷ codes "@media print { nav, form, .act { display: none } main, .printed { display: block } body { max-width: none; padding: 0; font-size: 10pt } a { color: inherit; text-decoration: none } thead { display: table-header-group } tr { break-inside: avoid } }"
    ∷ []

abbrev pub style_text : List ℕ
style_text =
    flat_map (λ rule. rule ++ codes "\n") (colour_rules ++ (page_rules ++ (table_rules ++ (form_rules ++ media_rules))))
