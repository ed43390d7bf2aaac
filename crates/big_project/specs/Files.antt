-- The files of the made project of n documents.
use Rattle.std.specs.Prelude.{ℕ, ◌+◌, ◌*◌, ◌/◌, ◌%◌, ◌==◌, if◌then◌else◌, List, [], ◌∷◌, ◌++◌, Option, Some, None, option_map, codes, decimal}
use Rattle.std.specs.List.{filter_map, flat_map, range_with_len}
use Rattle.std.specs.Str.{bytes_eq}

-- the project text: documents with a time, and steps of documents with a time and an unknown actor
unfoldable pub project_file : List ℕ
project_file = codes "onprom 1\ntable doc \"doc.csv\"\ncolumn doc id int\ncolumn doc made time\nkey doc (id)\ntable step \"step.csv\"\ncolumn step id int\ncolumn step doc int\ncolumn step done time\nkey step (id)\nclass Doc\nclass Step\nclass Actor\nassoc of Step * -> Doc 1\nassoc by Step 1..* -> Actor 1\nattr Doc made time 0..1\nattr Step done time 0..1\nmap docs from doc d then Doc(iri \"http://big.org/doc/{d.id}\"), made(iri \"http://big.org/doc/{d.id}\", d.made)\nmap steps from step s then of(iri \"http://big.org/step/{s.id}\", iri \"http://big.org/doc/{s.doc}\"), done(iri \"http://big.org/step/{s.id}\", s.done)\ncase c where Doc(c)\nevent create x where Doc(x)\ncases create (x, x) where Doc(x)\nset create \"concept:name\" mandatory is text \"create\"\nset create \"time:timestamp\" mandatory (x, t) where made(x, t)\nevent work x where Step(x), by(x, a), Actor(a)\ncases work (x, c) where of(x, c)\nset work \"concept:name\" mandatory is text \"work\"\nset work \"time:timestamp\" mandatory (x, t) where done(x, t)\nset work \"made\" single (x, t) where of(x, c), made(c, t)\n"

-- a number below 100 in two digits
abbrev pub two_digits : ℕ → List ℕ
two_digits n = (48 + n / 10) ∷ (48 + n % 10) ∷ []

-- a day of the month and an hour by a number
abbrev pub day_and_hour : ℕ → List ℕ
day_and_hour i = two_digits (1 + i % 28) ++ codes "T" ++ two_digits (i % 24) ++ codes ":00"

-- document i: its number and its time in January; every tenth has none
abbrev pub doc_line : ℕ → List ℕ
doc_line i = decimal i ++ codes "," ++ (if i % 10 == 0 then [] else codes "2024-01-" ++ day_and_hour i) ++ codes "\n"

unfoldable pub doc_file : ℕ → List ℕ
doc_file n = codes "id,made\n" ++ flat_map doc_line (range_with_len 1 n)

-- step j of a project of n documents: its number, its document, and its time in February; every fifth has none
abbrev pub step_line : ℕ → ℕ → List ℕ
step_line n j =
    decimal j ++ codes "," ++ decimal (1 + j % n) ++ codes "," ++ (if j % 5 == 0 then [] else codes "2024-02-" ++ day_and_hour j) ++ codes "\n"

unfoldable pub step_file : ℕ → List ℕ
step_file n = codes "id,doc,done\n" ++ flat_map (step_line n) (range_with_len 1 (2 * n))

-- the file of a name, none where the project has no such file
abbrev pub file_of : ℕ → List ℕ → Option (List ℕ)
file_of n name =
    if bytes_eq name (codes "project.txt") then Some project_file
    else (if bytes_eq name (codes "doc.csv") then Some (doc_file n)
    else (if bytes_eq name (codes "step.csv") then Some (step_file n) else None))

-- the three files by their names
abbrev pub with_file : ℕ → List ℕ → List (List ℕ × List ℕ) → List (List ℕ × List ℕ)
with_file n name files = filter_map (λ text. text) (made n name ∷ []) ++ files
  where
    made : ℕ → List ℕ → Option (List ℕ × List ℕ)
    made n name = option_map (λ text. (name, text)) (file_of n name)

abbrev pub made_files : ℕ → List (List ℕ × List ℕ)
made_files n = with_file n (codes "project.txt") (with_file n (codes "doc.csv") (with_file n (codes "step.csv") []))
