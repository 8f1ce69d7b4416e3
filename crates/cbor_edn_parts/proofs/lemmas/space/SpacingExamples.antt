-- The comments of some space texts, and each cell of the table of spaces, computed.
use Rattle.std.proofs.Common.{[], ◌≡◌, refl}
use Rattle.std.specs.Prelude.{codes}
use Rattle.cbor_edn_parts.specs.internal.CommentReading.{from_first, to_last, comments_of, up_to_comma, past_comma, before_comma, after_comma}
use Rattle.cbor_edn_parts.specs.space.Spacing.{Optional, Mandatory, Separating, AtEnd, Least, Comments, OneLine, NewLine, OneSpace, line, spaced}

-- From the first comment to the end of the last, with the line feed behind `#`, and without the blanks round them.
comments :
    comments_of (codes " /a/ # b\n\n ") ≡ codes "/a/ # b\n"
    × comments_of (codes "\r/c/\r") ≡ codes "/c/"
    × comments_of (codes "\t\n ") ≡ []
    × comments_of (codes "#\n\n") ≡ codes "#\n"
    × comments_of (codes "/# a/\r# / \n\t") ≡ codes "/# a/\r# / \n"
    × comments_of (codes "// //") ≡ codes "// //"
    × comments_of (codes "# a\n/ b\n/ ") ≡ codes "# a\n/ b\n/"
unfolding from_first to_last
comments = (refl, refl, refl, refl, refl, refl, refl)

-- A comma in a comment is none.
commas :
    before_comma (codes " /a/ , # b\n ") ≡ codes " /a/ "
    × after_comma (codes " /a/ , # b\n ") ≡ codes " # b\n "
    × before_comma (codes "/,/ #,\n , ") ≡ codes "/,/ #,\n "
    × after_comma (codes "/,/ #,\n ,/,/") ≡ codes "/,/"
    × before_comma (codes "/,/ ") ≡ codes "/,/ "
    × after_comma (codes "/,/ ") ≡ []
unfolding up_to_comma past_comma
commas = (refl, refl, refl, refl, refl, refl)

-- S
optional :
    spaced Optional Least (codes " /a/ # b\n\n ") ≡ []
    × spaced Optional Comments (codes " /a/ # b\n\n ") ≡ codes "/a/ # b\n"
    × spaced Optional OneLine (codes " /a/ # b\n\n ") ≡ codes "/a/ # b\n"
    × spaced Optional (NewLine 2) (codes " /a/ # b\n\n ") ≡ codes "\n  /a/ # b\n"
    × spaced Optional OneSpace (codes " /a/ # b\n\n ") ≡ codes " /a/ # b\n"
    × spaced Optional Least (codes " \t") ≡ []
    × spaced Optional Comments (codes " \t") ≡ []
    × spaced Optional OneLine (codes " \t") ≡ []
    × spaced Optional (NewLine 2) (codes " \t") ≡ codes "\n  "
    × spaced Optional OneSpace (codes " \t") ≡ codes " "
unfolding from_first to_last up_to_comma past_comma line
optional = (refl, refl, refl, refl, refl, refl, refl, refl, refl, refl)

-- MS: never empty
mandatory :
    spaced Mandatory Least (codes " /a/ # b\n\n ") ≡ codes " "
    × spaced Mandatory Comments (codes " /a/ # b\n\n ") ≡ codes "/a/ # b\n"
    × spaced Mandatory OneLine (codes " /a/ # b\n\n ") ≡ codes "/a/ # b\n"
    × spaced Mandatory (NewLine 2) (codes " /a/ # b\n\n ") ≡ codes "\n  /a/ # b\n"
    × spaced Mandatory OneSpace (codes " /a/ # b\n\n ") ≡ codes " /a/ # b\n"
    × spaced Mandatory Least (codes "\t") ≡ codes " "
    × spaced Mandatory Comments (codes "\t") ≡ codes " "
    × spaced Mandatory OneLine (codes "\t") ≡ codes " "
    × spaced Mandatory (NewLine 2) (codes "\t") ≡ codes "\n  "
    × spaced Mandatory OneSpace (codes "\t") ≡ codes " "
unfolding from_first to_last up_to_comma past_comma line
mandatory = (refl, refl, refl, refl, refl, refl, refl, refl, refl, refl)

-- MSC: with a comma always, and the comments on its two sides; without a comma all of them stand in front of it
separators :
    spaced Separating Least (codes " /a/ , # b\n ") ≡ codes ","
    × spaced Separating Comments (codes " /a/ , # b\n ") ≡ codes "/a/,# b\n"
    × spaced Separating OneLine (codes " /a/ , # b\n ") ≡ codes "/a/, # b\n"
    × spaced Separating (NewLine 2) (codes " /a/ , # b\n ") ≡ codes "/a/,\n  # b\n"
    × spaced Separating OneSpace (codes " /a/ , # b\n ") ≡ codes " /a/,# b\n"
    × spaced Separating Least (codes " /a/ ") ≡ codes ","
    × spaced Separating Comments (codes " /a/ ") ≡ codes "/a/,"
    × spaced Separating OneLine (codes " /a/ ") ≡ codes "/a/, "
    × spaced Separating (NewLine 2) (codes " /a/ ") ≡ codes "/a/,\n  "
    × spaced Separating OneSpace (codes " /a/ ") ≡ codes " /a/,"
    × spaced Separating Least (codes " , ") ≡ codes ","
    × spaced Separating Comments (codes " , ") ≡ codes ","
    × spaced Separating OneLine (codes " , ") ≡ codes ", "
    × spaced Separating (NewLine 2) (codes " , ") ≡ codes ",\n  "
    × spaced Separating OneSpace (codes " , ") ≡ codes " ,"
unfolding from_first to_last up_to_comma past_comma line
separators = (refl, refl, refl, refl, refl, refl, refl, refl, refl, refl, refl, refl, refl, refl, refl)

-- SOC: without a comma always
ends :
    spaced AtEnd Least (codes " /a/ , # b\n ") ≡ []
    × spaced AtEnd Comments (codes " /a/ , # b\n ") ≡ codes "/a/# b\n"
    × spaced AtEnd OneLine (codes " /a/ , # b\n ") ≡ codes "/a/# b\n"
    × spaced AtEnd (NewLine 2) (codes " /a/ , # b\n ") ≡ codes "\n  /a/# b\n"
    × spaced AtEnd OneSpace (codes " /a/ , # b\n ") ≡ codes " /a/# b\n"
    × spaced AtEnd Least (codes " , ") ≡ []
    × spaced AtEnd Comments (codes " , ") ≡ []
    × spaced AtEnd OneLine (codes " , ") ≡ []
    × spaced AtEnd (NewLine 2) (codes " , ") ≡ codes "\n  "
    × spaced AtEnd OneSpace (codes " , ") ≡ codes " "
unfolding from_first to_last up_to_comma past_comma line
ends = (refl, refl, refl, refl, refl, refl, refl, refl, refl, refl)
