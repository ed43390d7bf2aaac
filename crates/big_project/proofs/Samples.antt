-- The files of the made project of three documents.
use Rattle.std.proofs.Common.{◌≡◌, refl, Some, None, codes}
use Rattle.std.specs.Fmt.{digits}
use Rattle.big_project.specs.Files.{doc_file, doc_line, step_line, file_of, step_file}
use Rattle.big_project.specs.Summary.{first_line}

docs : file_of 3 (codes "doc.csv") ≡ Some (codes "id,made\n1,2024-01-02T01:00\n2,2024-01-03T02:00\n3,2024-01-04T03:00\n")
unfolding doc_file digits
docs = refl

steps : file_of 3 (codes "step.csv") ≡ Some (codes "id,doc,done\n1,2,2024-02-02T01:00\n2,3,2024-02-03T02:00\n3,1,2024-02-04T03:00\n4,2,2024-02-05T04:00\n5,3,\n6,1,2024-02-07T06:00\n")
unfolding step_file digits
steps = refl

tenth : doc_line 10 ≡ codes "10,\n"
unfolding digits
tenth = refl

-- the 28th day and the hour 23
late : doc_line 27 ≡ codes "27,2024-01-28T03:00\n"
unfolding digits
late = refl

wraps : step_line 40 47 ≡ codes "47,8,2024-02-20T23:00\n"
unfolding digits
wraps = refl

no_such_file : file_of 3 (codes "doc.txt") ≡ None
no_such_file = refl

summary : first_line (codes "traces 3 events 8 left out 1\nincomplete work\n") ≡ codes "traces 3 events 8 left out 1\n"
summary = refl
